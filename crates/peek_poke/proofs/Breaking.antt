-- What a broken wire leaves of a message and its reply.
use Rattle.std.proofs.Common.{ℕ, ◌≡◌, ◌<◌, ◌+◌, List, [], ◌++◌, length, take, drop, sym, ap, ◌∙◌, subst, arith, append_assoc, append-nil, length-append, length-drop}
use Rattle.std.proofs.lemmas.List.{take-append-le, take-append-drop, take_all}
use Rattle.std.proofs.Math.Seq.{take-append_seam, take-append-add}
use Rattle.peek_poke.specs.Messages.{Pending}
use Rattle.peek_poke.specs.Sending.{IsCut, IsBrokenOff}

module _ {W : Type 0} (carried : W → List ℕ) (wire wire_then : W) (end end_then : Pending) where
  within_front : (front more reply : List ℕ) → IsBrokenOff carried front [] wire wire_then end end_then → IsBrokenOff carried (front ++ more) reply wire
      wire_then end end_then
  within_front front more reply b =
      let n = b.count in
      let within : n < length front = omega (arith, b.proper, length-append front []) in
      let all : take n ((front ++ more) ++ reply) ≡ take n front = ap (take n) (append_assoc front more reply) ∙ take-append-le n front (more ++ reply)
      (omega arith) in
      let none : take n (front ++ []) ≡ take n front = ap (take n) (append-nil front) in
      record {
        count = n;
        proper = omega (arith, length-append (front ++ more) reply, length-append front more);
        carries = b.carries ∙ ap (λ (xs : List ℕ). carried wire ++ xs) (none ∙ sym all);
        takes = b.takes ∙ ap (λ (xs : List ℕ). end.taken ++ xs) (sym (take-append-le n front more (omega arith)));
      }

  behind_front : (front more reply : List ℕ) → 0 < length more → carried wire_then ≡ carried wire ++ front → end_then.taken ≡ end.taken ++ front
      → IsBrokenOff carried (front ++ more) reply wire wire_then end end_then
  behind_front front more reply h carries takes =
      let n = length front in
      let all : take n ((front ++ more) ++ reply) ≡ front = ap (take n) (append_assoc front more reply) ∙ take-append_seam front (more ++ reply) in
      record {
        count = n;
        proper = omega (arith, h, length-append (front ++ more) reply, length-append front more);
        carries = carries ∙ ap (λ (xs : List ℕ). carried wire ++ xs) (sym all);
        takes = takes ∙ ap (λ (xs : List ℕ). end.taken ++ xs) (sym (take-append_seam front more));
      }

  -- it failed within a front of the message
  pub in_front : (n : ℕ) (bytes message reply : List ℕ) → bytes ≡ message → IsBrokenOff carried (take n bytes) [] wire wire_then end end_then
      → IsBrokenOff carried message reply wire wire_then end end_then
  in_front n bytes message reply e b =
      let front : IsBrokenOff carried (take n message) [] wire wire_then end end_then =
      subst (λ (xs : List ℕ). IsBrokenOff carried (take n xs) [] wire wire_then end end_then) e b in
      subst (λ (xs : List ℕ). IsBrokenOff carried xs reply wire wire_then end end_then) (take-append-drop n message)
      (within_front (take n message) (drop n message) reply front)

  -- it failed after a proper front of the message
  pub after_front : (n : ℕ) (bytes message reply : List ℕ) → bytes ≡ message → n < length message → carried wire_then ≡ carried wire ++ take n bytes
      → end_then.taken ≡ end.taken ++ take n bytes → IsBrokenOff carried message reply wire wire_then end end_then
  after_front n bytes message reply e h carries takes =
      let same : take n bytes ≡ take n message = ap (take n) e in
      subst (λ (xs : List ℕ). IsBrokenOff carried xs reply wire wire_then end end_then) (take-append-drop n message)
      (behind_front (take n message) (drop n message) reply (omega (arith, h, length-drop n message)) (carries ∙ ap (λ (xs : List ℕ). carried wire ++ xs) same)
      (takes ∙ ap (λ (xs : List ℕ). end.taken ++ xs) same))

  -- it failed within the reply
  pub within_reply : (message reply sent : List ℕ) → sent ≡ carried wire ++ message → IsCut reply sent (carried wire_then) → end_then.taken ≡ end.taken
      ++ message → IsBrokenOff carried message reply wire wire_then end end_then
  within_reply message reply sent e cut takes =
      let n = cut.0 in
      record {
        count = length message + n;
        proper = omega (arith, cut.1, length-append message reply);
        carries = cut.2
            ∙ (ap (λ (xs : List ℕ). xs ++ take n reply) e
            ∙ (append_assoc (carried wire) message (take n reply) ∙ ap (λ (xs : List ℕ). carried wire ++ xs) (sym (take-append-add message reply n))));
        takes = takes ∙ ap (λ (xs : List ℕ). end.taken ++ xs) (sym (take_all (length message + n) message (omega arith)));
      }
