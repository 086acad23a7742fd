-- What the bytes of a message are, byte by byte and whole.
use Rattle.std.proofs.Common.{Result, false, ℕ, zero, suc, ◌≡◌, ◌≤◌, ◌<◌, ◌+◌, List, [], ◌∷◌, ◌++◌, length, take, get_or, set, sym, ap, ◌∙◌, arith, ◌⊎◌, inl, inr, take_all, length-set, length-take-le}
use Rattle.std.proofs.lemmas.List.{take_more_set}
use Rattle.peek_poke.specs.declared.message.Message.{Message}
use Rattle.std.specs.Prelude.{Ok, Some, None, ◌^◌, drop}
use Rattle.std.specs.Int.{from_le_bytes}
use mir.Syntax.{w32}
use Rattle.std.proofs.lemmas.Option.{same_Some}
use Rattle.std.proofs.lemmas.Nat.{from_le_bytes-to_le_bytes_4}
use Rattle.peek_poke.specs.declared.message.Message.TheVariants.{Poke, Peek}
use Rattle.peek_poke.specs.declared.message.TheConstants.{POKE, PEEK, POKE_BYTES, PEEK_BYTES}
use Rattle.peek_poke.specs.Messages.{word_bytes, spell, IsMessage, IsPartial, Pending}
use Rattle.peek_poke.specs.Effects.{ReadsWord, WritesWord, EndsRefused, IsCause, Feeds, HasEffect, answer_fault}
use Rattle.peek_poke.specs.declared.fault.StoreFault.{StoreFault}
use Rattle.peek_poke.specs.declared.fault.StoreFault.TheVariants.{Misaligned, Outside}

-- a text that is long enough for its control byte is a message
pub text_whole : (bs : List ℕ) (n b w : ℕ) (m : Message) → length bs ≡ POKE_BYTES → n < POKE_BYTES → IsPartial (take n bs) → w ≤ n + 1
    → ((get_or (set bs n b) 0 0 ≡ POKE) × (w ≡ POKE_BYTES)) ⊎ ((get_or (set bs n b) 0 0 ≡ POKE → ⊥) × (w ≡ PEEK_BYTES))
    → (get_or (set bs n b) 0 0 ≡ POKE → spell m ≡ set bs n b) → (get_or (set bs n b) 0 0 ≡ PEEK → spell m ≡ take PEEK_BYTES (set bs n b)) → take n bs ++ b ∷ []
    ≡ spell m
text_whole [] n b w m l h p e c poke peek = absurd (omega arith)
text_whole (x ∷ xs) zero b w m l h p e c poke peek = absurd (elim c [ inl d ↦ omega arith | inr d ↦ omega arith ])
text_whole (x ∷ xs) (suc k) b w m l h p e c poke peek =
    let long : length (take k xs) ≡ k = length-take-le k xs (omega arith) in
    let same : take (suc k + 1) (x ∷ set xs k b) ≡ (x ∷ take k xs) ++ b ∷ [] = take_more_set (x ∷ xs) (suc k) b (omega arith) in
    elim p [
      | inl q ↦
          let nine : suc k + 1 ≡ POKE_BYTES = elim c [ inl d ↦ omega arith | inr d ↦ absurd (d.0 q.0) ] in
          sym same ∙ take_all (suc k + 1) (x ∷ set xs k b) (omega (arith, length-set xs k b)) ∙ sym (poke q.0)
      | inr q ↦
          let five : suc k + 1 ≡ PEEK_BYTES = elim c [ inl d ↦ absurd (omega arith) | inr d ↦ omega arith ] in
          sym same ∙ ap (λ (i : ℕ). take i (x ∷ set xs k b)) five ∙ sym (peek q.0)
    ]

-- a refusal by the store is the cause of the fault of its name
pub cause_of : {S : Type 0} (read : S → ℕ → Result ℕ StoreFault) (write : S → ℕ → ℕ → Result S StoreFault) (old : Pending) (s : S) (b : ℕ) (e : StoreFault)
    → old.failed ≡ false → EndsRefused read write old s b e → IsCause read write old s b (answer_fault e)
cause_of read write old s b Misaligned f h = (f, h)
cause_of read write old s b Outside f h = (f, h)

some_not_none : (xs : List ℕ) → Some xs ≡ None → ⊥
some_not_none xs e = cc

-- words are known by their bytes
pub same_words : (a b : ℕ) → a < 2 ^ 32 → b < 2 ^ 32 → word_bytes a ≡ word_bytes b → a ≡ b
same_words a b h k e = sym (from_le_bytes-to_le_bytes_4 a h) ∙ ap (from_le_bytes w32) e ∙ from_le_bytes-to_le_bytes_4 b k

same_ok : {A B : Type 0} (x y : A) → ◌≡◌ {A = Result A B} (Ok x) (Ok y) → x ≡ y
same_ok x y e = cc

-- what answers a peek: the bytes of the word that the store has there
answered_by : {S : Type 0} (read : ReadsWord S) (write : WritesWord S) (s t : S) (a : ℕ) (reply : List ℕ) → a < 2 ^ 32 → (m : Message) → IsMessage m
    → spell (Peek a) ≡ spell m → HasEffect read write s m (Some reply) t → (w : ℕ) × (w < 2 ^ 32) × (read s a ≡ Ok w) × (reply ≡ word_bytes w)
answered_by read write s t a reply h (Poke x w) f e d = absurd (some_not_none reply d.0)
answered_by read write s t a reply h (Peek x) f e d =
    let same : word_bytes a ≡ word_bytes x = ap (λ (xs : List ℕ). drop 1 xs) e in
    (d.1.0, d.1.1, ap (read s) (same_words a x h f same) ∙ d.1.2, same_Some reply (word_bytes d.1.0) d.1.3)

module _ {S : Type 0} (read : ReadsWord S) (write : WritesWord S) (old new : Pending) (s t : S) (b a : ℕ) (reply : List ℕ) (fits : a < 2 ^ 32)
    (fed : Feeds read write old s b (Ok (Some reply)) new t) (whole : old.bytes ++ b ∷ [] ≡ spell (Peek a)) where
  answered : (w : ℕ) × (w < 2 ^ 32) × (read s a ≡ Ok w) × (reply ≡ word_bytes w)
  answered =
      elim fed.2 [
        | inl w ↦ absurd (some_not_none reply w.silent)
        | inr d ↦ answered_by read write s t a reply fits d.message d.fits (sym whole ∙ d.whole) d.does
      ]

  -- a whole peek that is answered: the word of these bytes stands there
  pub peeked : read s a ≡ Ok (from_le_bytes w32 reply)
  peeked =
      let w = answered.0 in
      answered.2 ∙ ap (λ (n : ℕ). Ok n) (sym (ap (from_le_bytes w32) answered.3 ∙ from_le_bytes-to_le_bytes_4 w answered.1))

  -- and these bytes are those of the word that stands there
  pub replied : (word : ℕ) → read s a ≡ Ok word → reply ≡ word_bytes word
  replied word is = answered.3 ∙ ap word_bytes (same_ok _ _ (sym answered.2 ∙ is))
