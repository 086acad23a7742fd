-- A byte that an end takes, whatever came to it before its message.
use Rattle.std.proofs.Common.{◌≡◌, ℕ, List, [], ◌∷◌, ◌++◌, sym, ap, ◌∙◌, subst, inl, inr, Option, Ok, Err, true}
use Rattle.peek_poke.specs.declared.fault.AnswerFault.{AnswerFault}
use Rattle.peek_poke.specs.declared.fault.AnswerFault.TheVariants.{Boot, Misaligned, Outside, Failed}
use Rattle.peek_poke.specs.Effects.{ReadsWord, WritesWord, Feeds, IsCause}
use Rattle.peek_poke.specs.Messages.{IsPartial, Pending}

module _ {S : Type 0} (read : ReadsWord S) (write : WritesWord S) (old other new left : Pending) (s t : S) (byte : ℕ) (failed : old.failed ≡ other.failed)
    (bytes : old.bytes ≡ other.bytes) where
  longer : old.bytes ++ byte ∷ [] ≡ other.bytes ++ byte ∷ []
  longer = ap (λ (x : List ℕ). x ++ byte ∷ []) bytes

  -- two ends to which the same has come of a message take it alike
  pub same_taken : (answer : Option (List ℕ)) → new.failed ≡ left.failed → new.bytes ≡ left.bytes → Feeds read write old s byte (Ok answer) new t
      → Feeds read write other s byte (Ok answer) left t
  same_taken answer failing begun f = (
    sym failed ∙ f.0,
    sym failing ∙ f.1,
    elim f.2 [
      | inl w ↦ inl (record { partial = subst IsPartial longer w.partial; kept = sym begun ∙ w.kept ∙ longer; silent = w.silent; same = w.same })
      | inr e ↦ inr (record { message = e.message; fits = e.fits; whole = sym longer ∙ e.whole; rest = sym begun ∙ e.rest; does = e.does })
    ],
  )

  same_cause : (fault : AnswerFault) → IsCause read write old s byte fault → IsCause read write other s byte fault
  same_cause (Boot control) c = (sym failed ∙ c.0, sym bytes ∙ c.1, c.2, c.3)
  same_cause Misaligned c = (sym failed ∙ c.0, (c.1.0, c.1.1, sym longer ∙ c.1.2, c.1.3))
  same_cause Outside c = (sym failed ∙ c.0, (c.1.0, c.1.1, sym longer ∙ c.1.2, c.1.3))
  same_cause Failed c = sym failed ∙ c

  -- and refuse it alike
  pub same_refused : (fault : AnswerFault) → left.failed ≡ true → Feeds read write old s byte (Err fault) new t → Feeds read write other s byte (Err fault) left
      t
  same_refused fault failing f = (failing, f.1, same_cause fault f.2)
