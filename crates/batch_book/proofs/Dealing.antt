-- How the seats of a new exchange are dealt.
use Rattle.std.proofs.Common.{◌≡◌, ℕ, zero, suc, ◌+◌, ◌-◌, ◌<◌, ◌≤◌, List, [], ◌∷◌, ◌++◌, length, length-append, get_or, false, refl, sym, ap, ◌∙◌, subst, inl, inr, add-one, arith}
use Rattle.std.proofs.lemmas.Bool.{cases_lt}
use Rattle.std.proofs.lemmas.List.{get_or_append_left, get_or_push}
use Rattle.std.proofs.lemmas.Grind.{common_steps}
use Rattle.std.proofs.lemmas.List.Sums.{sum_by_push, sum_by-cons}
use Rattle.atomic_table.specs.Seated.{TableId}
use Rattle.progress_word.specs.declared.limits.TheConstants.{ALL_PARTS}
use Rattle.progress_word.specs.Watchers.{watcher_view}
use Rattle.batch_book.specs.Seats.{SeatState, open_seat, parts_of}
use Rattle.batch_book.specs.Exchanges.{new_seat, parts_at, AreNew}

-- a seat that isn't the first has raised to nothing yet
pub later_seat : (word : TableId) (start session : ℕ) → 0 < session → open_seat (watcher_view word start 0 1) session [] [] 1 false
    ≡ new_seat word start session 1
later_seat word start session less = grind (arith, common_steps)

-- the seats of the sessions from 1 to before this one are dealt, with one part each
pub record AreDealt (word : TableId) (start session : ℕ) (seats : List SeatState) : Type 0 where
  pub count : length seats + 1 ≡ session
  pub parts : parts_of seats + 1 ≡ session
  pub each : (k : ℕ) (d : SeatState) → k + 1 < session → get_or seats k d ≡ new_seat word start (k + 1) 1

pub none_dealt : (word : TableId) (start : ℕ) → AreDealt word start 1 []
none_dealt word start = record { count = refl; parts = refl; each = λ k d below. absurd (omega arith) }

pub dealt_more : (word : TableId) (start session : ℕ) (seats new : List SeatState) (seat : SeatState) → new ≡ seats ++ seat ∷ [] → seat
    ≡ new_seat word start session 1 → AreDealt word start session seats → AreDealt word start (session + 1) new
dealt_more word start session seats new seat grown is dealt =
    let count = dealt.count in
    let parts = dealt.parts in
    let one : seat.parts ≡ 1 = ap (λ (s : SeatState). s.parts) is in
    subst (AreDealt word start (session + 1)) (sym grown) record {
      count = omega (arith, length-append seats (seat ∷ []));
      parts = omega (arith, sum_by_push (λ (s : SeatState). s.parts) seats seat);
      each = λ k d below. elim (cases_lt k (length seats)) [
        | inl within ↦ get_or_append_left seats (seat ∷ []) d k within ∙ dealt.each k d (omega arith)
        | inr past ↦
            let last : length seats ≡ k = omega arith in
            let here : session ≡ k + 1 = omega arith in
            get_or_push seats seat d k last ∙ is ∙ ap (λ (n : ℕ). new_seat word start n 1) here
      ];
    }

other_part : (sessions k : ℕ) → parts_at sessions (suc k) ≡ 1
other_part sessions k = grind (arith, common_steps)

each_new : (word : TableId) (start sessions : ℕ) (seats : List SeatState) (first : SeatState) → first ≡ new_seat word start 0 (ALL_PARTS + 1 - sessions)
    → AreDealt word start sessions seats
    → (i : ℕ) (d : SeatState) → i < sessions → get_or (first ∷ seats) i d ≡ new_seat word start i (parts_at sessions i)
each_new word start sessions seats first is dealt zero d below = is
each_new word start sessions seats first is dealt (suc k) d below = dealt.each k d (omega arith) ∙ ap (λ (n : ℕ). new_seat word start n 1) (add-one k)
    ∙ ap (λ (n : ℕ). new_seat word start (suc k) n) (sym (other_part sessions k))

-- with the first seat in front they are all
pub all_dealt : (word : TableId) (start sessions : ℕ) (seats all : List SeatState) (first : SeatState) → all ≡ first ∷ seats → first
    ≡ new_seat word start 0 (ALL_PARTS + 1 - sessions) → sessions ≤ ALL_PARTS → AreDealt word start sessions seats → AreNew word start sessions all
all_dealt word start sessions seats all first are is few dealt =
    let count = dealt.count in
    let parts = dealt.parts in
    let left : first.parts ≡ ALL_PARTS + 1 - sessions = ap (λ (s : SeatState). s.parts) is in
    subst (AreNew word start sessions) (sym are) record {
      count = omega arith;
      parts = omega (arith, sum_by-cons (λ (s : SeatState). s.parts) first seats);
      each = each_new word start sessions seats first is dealt;
    }
