-- An exchange of one client.
use Rattle.std.proofs.Common.{◌≡◌, ℕ, zero, suc, Bool, List, [], ◌∷◌, ◌++◌, length, get_or, map, All, Option, Some, is_some, refl, sym, ap, ◌∙◌, subst, arith}
use Rattle.std.proofs.lemmas.List.{length-append}
use Rattle.progress_word.specs.declared.limits.TheConstants.{ALL_PARTS}
use Rattle.module_memory.specs.Store.{Store}
use Rattle.batch_book.specs.declared.entry.Entry.{Entry}
use Rattle.batch_book.specs.History.{BookView}
use Rattle.batch_book.specs.Exchanges.{Exchange, AreNew, new_seat, parts_at}
use Rattle.batch_book.specs.Seats.{SeatState, IsSameSeat, parts_of}
use Rattle.client_session.specs.declared.fault.ServeFault.{ServeFault}
use Rattle.session_answers.specs.Frames.{Transcript, end_line}
use Rattle.session_answers.specs.Histories.{part_of, IsClosing}
use Rattle.session_answers.specs.Hosting.{begun_at, IsFresh, AreAllSeats}
use Rattle.plan_answers.specs.Refusals.{Printed}
use Rattle.session_answers.specs.Sessions.{Beginning, beginning, IsServedSession}
use Rattle.session_answers.specs.Talking.{HasTalked}
use Rattle.session_answers.proofs.Sessions.{fresh_seat}

empty_front : (xs : List SeatState) (x : SeatState) → length (xs ++ x ∷ []) ≡ 1 → xs ≡ []
empty_front [] x len = refl
empty_front (y ∷ ys) x len = absurd (omega (arith, len, length-append ys (x ∷ [])))

all_of_one : (P : SeatState → Type 0) (x : SeatState) → P x → All P (x ∷ [])
all_of_one P x p zero d lt = p
all_of_one P x p (suc k) d lt = absurd (omega (arith, lt))

-- the one seat of a new exchange, which was taken from the others
pub record IsAlone (x : Exchange) (start : ℕ) (rest : List SeatState) (seat : SeatState) : Type 0 where
  pub nothing : rest ≡ []
  pub fresh : IsFresh x seat
  pub seen : seat.seen ≡ start
  pub first : seat.session ≡ 0
  pub parts : seat.parts ≡ ALL_PARTS

pub alone : (x : Exchange) (start : ℕ) (all rest : List SeatState) (seat : SeatState) → AreNew x.word start 1 all → all ≡ rest ++ seat ∷ []
    → IsAlone x start rest seat
alone x start all rest seat new is =
    let nothing : rest ≡ [] = empty_front rest seat (sym (ap length is) ∙ new.count) in
    let one : all ≡ seat ∷ [] = is ∙ ap (λ (ys : List SeatState). ys ++ seat ∷ []) nothing in
    let begun : seat ≡ new_seat x.word start 0 (parts_at 1 0) = ap (λ (ys : List SeatState). get_or ys 0 seat) (sym one) ∙ new.each 0 seat (omega arith) in
    let whole : parts_of (seat ∷ []) ≡ ALL_PARTS = ap parts_of (sym one) ∙ new.parts in
    record {
      nothing = nothing;
      fresh = fresh_seat begun;
      seen = ap (λ (s : SeatState). s.seen) begun;
      first = ap (λ (s : SeatState). s.session) begun;
      parts = omega (arith, whole);
    }

-- it comes back as the seat of the same session
pub all_there : (x : Exchange) (start : ℕ) (rest : List SeatState) (old new : SeatState) → IsAlone x start rest old → IsSameSeat old new
    → AreAllSeats x (rest ++ new ∷ [])
all_there x start rest old new one same =
    let kept : new.exchange ≡ Some x.word = same.exchange ∙ one.fresh.exchange in
    let each = all_of_one (λ (s : SeatState). s.exchange ≡ Some x.word) new kept in
    let parts : new.parts ≡ ALL_PARTS = same.parts ∙ one.parts in
    subst (λ (ys : List SeatState). AreAllSeats x (ys ++ new ∷ [])) (sym one.nothing) (record { each = each; parts = omega (arith, parts) })

-- what a session from it leaves is what was talked
pub has_talked : (loses : Bool) (opening : Store) (earlier : List Entry) (was : BookView) (x : Exchange) (start : ℕ) (rest : List SeatState)
    (old new : SeatState) (before after : Option (List ℕ)) (line told : List ℕ) (fault : Option ServeFault) (failed : Bool)
    → IsAlone x start rest old → IsSameSeat old new → begun_at loses x old.seen ≡ beginning loses was → was.opening ≡ opening → was.history ≡ earlier → line
    ≡ end_line fault → failed ≡ is_some fault
    → IsServedSession (begun_at loses x old.seen) before after (record { part = part_of new; told = told; fault = fault })
    → (printed : Printed) (left : BookView) → IsClosing loses opening earlier (map part_of (rest ++ new ∷ [])) line failed printed left
    → HasTalked loses was before after told printed left
has_talked loses opening earlier was x start rest old new before after line told fault failed one same begun words entries said fails session printed left
    closed =
    let t : Transcript = record { part = part_of new; told = told; fault = fault } in (
      t,
      same.session ∙ one.first,
      refl,
      subst (λ (b : Beginning). IsServedSession b before after t) begun session,
      rw (sym words, sym entries, one.nothing, said, fails) at closed,
    )
