-- All that has come to an answering end, and one more byte.
use Rattle.std.proofs.Common.{ℕ, ◌≡◌, List, [], ◌∷◌, ◌++◌, length, refl, sym, ap, ◌∙◌, subst, arith, inl, inr, All, Option, Result, option_to_list, append_assoc, append-nil, IfOk}
use Rattle.std.specs.List.{flat_map}
use Rattle.std.proofs.lemmas.List.{flat_map_more, get_or_append_left, get_or_push, length_push}
use Rattle.std.proofs.lemmas.Bool.{cases_lt}
use Rattle.std.specs.Prelude.{Ok, Err}
use Rattle.peek_poke.specs.declared.message.Message.{Message}
use Rattle.peek_poke.specs.declared.fault.StoreFault.{StoreFault}
use Rattle.peek_poke.specs.declared.fault.AnswerFault.{AnswerFault}
use Rattle.peek_poke.specs.Messages.{spell, IsMessage, IsPartial, Pending}
use Rattle.peek_poke.specs.Effects.{HasEffect, DoAll, HasAnswered, Feeds}

whole_more : (ms : List Message) (m : Message) → flat_map spell ms ++ spell m ≡ flat_map spell (ms ++ m ∷ [])
whole_more ms m = flat_map_more spell [] ms m

module _ {S : Type 0} (read : S → ℕ → Result ℕ StoreFault) (write : S → ℕ → ℕ → Result S StoreFault) where
  -- one more message
  DoAll-push : (s u t : S) (ms : List Message) (m : Message) (answers : List (List ℕ)) (a : Option (List ℕ)) → DoAll read write s ms answers u
      → HasEffect read write u m a t → DoAll read write s (ms ++ m ∷ []) (answers ++ option_to_list a) t
  DoAll-push s u t [] m answers a h d = (
    a,
    t,
    [],
    subst (λ (x : S). HasEffect read write x m a t) h.1 d,
    ap (λ (xs : List (List ℕ)). xs ++ option_to_list a) h.0
        ∙ sym (append-nil (option_to_list a)),
    (refl, refl),
  )
  DoAll-push s u t (n ∷ ms) m answers a h d = (
    h.0,
    h.1,
    h.2 ++ option_to_list a,
    h.3,
    ap (λ (xs : List (List ℕ)). xs ++ option_to_list a) h.4 ∙ append_assoc (option_to_list h.0) h.2
        (option_to_list a),
    DoAll-push h.1 u t ms m h.2 a h.5 d,
  )

  All-push : (ms : List Message) (m : Message) → All IsMessage ms → IsMessage m → All IsMessage (ms ++ m ∷ [])
  All-push ms m h p = λ k d l.
      elim (cases_lt k (length ms)) [
        | inl e ↦ subst IsMessage (sym (get_or_append_left ms (m ∷ []) d k e)) (h k d e)
        | inr e ↦ subst IsMessage (sym (get_or_push ms m d k (omega (arith, length_push ms m)))) p
      ]

  -- what has come so far, and one more byte
  pub so_far : (s : S) (text : List ℕ) (answers : List (List ℕ)) (old : Pending) (st : S) (byte : ℕ) (result : Result (Option (List ℕ)) AnswerFault)
      (new : Pending) (t : S) → Feeds read write old st byte result new t → HasAnswered read write s text answers old st
      → IfOk result (λ r. HasAnswered read write s (text ++ byte ∷ []) (answers ++ option_to_list r) new t)
  so_far s text answers old st byte (Err e) new t f h = tt
  so_far s text answers old st byte (Ok r) new t f h =
      let longer : text ++ byte ∷ [] ≡ flat_map spell h.messages ++ (old.bytes ++ byte ∷ []) = ap (λ (xs : List ℕ). xs ++ byte ∷ []) h.whole
      ∙ append_assoc (flat_map spell h.messages) old.bytes (byte ∷ []) in
      elim f.2 [
        | inl w ↦ record {
          messages = h.messages;
          each = h.each;
          whole = longer ∙ ap (λ (xs : List ℕ). flat_map spell h.messages ++ xs) (sym w.kept);
          partial = subst IsPartial (sym w.kept) w.partial;
          alive = f.1;
          did = subst (λ (x : S). DoAll read write s h.messages (answers ++ option_to_list r) x) (sym w.same)
              (subst (λ (x : Option (List ℕ)). DoAll read write s h.messages (answers ++ option_to_list x) st) (sym w.silent)
              (subst (λ (x : List (List ℕ)). DoAll read write s h.messages x st) (sym (append-nil answers)) h.did));
        }
        | inr e ↦ record {
          messages = h.messages ++ e.message ∷ [];
          each = All-push h.messages e.message h.each e.fits;
          whole = longer ∙ ap (λ (xs : List ℕ). flat_map spell h.messages ++ xs) e.whole ∙ whole_more h.messages e.message
              ∙ sym (append-nil (flat_map spell (h.messages ++ e.message ∷ []))) ∙ ap (λ (xs : List ℕ). flat_map spell (h.messages ++ e.message ∷ []) ++ xs)
              (sym e.rest);
          partial = subst IsPartial (sym e.rest) tt;
          alive = f.1;
          did = DoAll-push s st t h.messages e.message answers r h.did e.does;
        }
      ]
