-- Readings of one turn more.
use Rattle.std.proofs.Common.{ℕ, ◌≤◌, List, [], ◌∷◌, ◌++◌, arith}
use Rattle.std.specs.List.{AllByRecursion}
use Rattle.client_session.specs.Seats.{SeatView}
use Rattle.client_session.specs.Turns.{Turn, readings_of, shown, IsBelowReadings, AreRising, AreReadings}
use Rattle.client_session.specs.Steps.{Did}
use Rattle.link_graph.proofs.Sums.{each}
use Rattle.client_session.proofs.Lists.{every-push, every_both, every_trivial, every_left}

-- nothing that these turns have shown is above this
abbrev pub HaveShown : ℕ → List Turn → Type 0
HaveShown seen turns = AllByRecursion (λ (t : Turn). AllByRecursion (λ v. v ≤ seen) (shown t.did)) turns

pub shown_more : (a b : ℕ) (turns : List Turn) → a ≤ b → HaveShown a turns → HaveShown b turns
shown_more a b turns le h = each (λ (t : Turn). AllByRecursion (λ v. v ≤ a) (shown t.did)) (λ (t : Turn). AllByRecursion (λ v. v ≤ b) (shown t.did))
    (λ t x. each (λ v. v ≤ a) (λ v. v ≤ b) (λ v p. omega (arith, p, le)) (shown t.did) x) turns h

rising_push : (turns : List Turn) (t : Turn) (seen : ℕ) → AreRising turns → HaveShown seen turns → AllByRecursion (λ r. seen ≤ r) (readings_of t.did.reading)
    → AreRising (turns ++ t ∷ [])
rising_push [] t seen rising have low = (every_trivial (IsBelowReadings []) (shown t.did) (λ v. tt), tt)
rising_push (u ∷ turns) t seen rising have low = (
  every_both (IsBelowReadings turns) (λ v. v ≤ seen) (IsBelowReadings (turns ++ t ∷ [])) (shown u.did)
      (λ v below le. every-push (λ (x : Turn). AllByRecursion (λ r. v ≤ r) (readings_of x.did.reading)) turns t below
      (each (λ r. seen ≤ r) (λ r. v ≤ r) (λ r p. omega (arith, p, le)) (readings_of t.did.reading) low))
      rising.0 have.0,
  rising_push turns t seen rising.1 have.1 low,
)

pub readings_none : (p : SeatView) → AreReadings p.seen p.seen []
readings_none p = record { low = tt; high = tt; rising = tt }

pub readings_push : (from to next : SeatView) (turns : List Turn) (t : Turn) → from.seen ≤ to.seen → AreReadings from.seen to.seen turns
    → HaveShown to.seen turns → Did to next t.did → AreReadings from.seen next.seen (turns ++ t ∷ [])
readings_push from to next turns t le r have did = record {
  low = every-push (λ (x : Turn). AllByRecursion (λ r. from.seen ≤ r) (readings_of x.did.reading)) turns t r.low
      (each (λ r. to.seen ≤ r) (λ r. from.seen ≤ r) (λ r p. omega (arith, p, le)) _ did.low);
  high = every-push (λ (x : Turn). AllByRecursion (λ r. r ≤ next.seen) (readings_of x.did.reading)) turns t
      (each (λ (x : Turn). AllByRecursion (λ r. r ≤ to.seen) (readings_of x.did.reading))
      (λ (x : Turn). AllByRecursion (λ r. r ≤ next.seen) (readings_of x.did.reading))
      (λ x h. each (λ r. r ≤ to.seen) (λ r. r ≤ next.seen) (λ r p. omega (arith, p, did.goes_on.seen)) _ h)
      turns r.high)
      (every_left (λ v. v ≤ next.seen) (readings_of t.did.reading) _ did.high);
  rising = rising_push turns t to.seen r.rising have did.low;
}

pub shown_push : (to next : SeatView) (turns : List Turn) (t : Turn) → HaveShown to.seen turns → Did to next t.did → HaveShown next.seen (turns ++ t ∷ [])
shown_push to next turns t have did = every-push (λ (x : Turn). AllByRecursion (λ v. v ≤ next.seen) (shown x.did)) turns t
    (shown_more to.seen next.seen turns did.goes_on.seen have) did.high

-- later as many were read
pub readings_later : (from to next : SeatView) (turns : List Turn) → to.seen ≤ next.seen → AreReadings from.seen to.seen turns
    → AreReadings from.seen next.seen turns
readings_later from to next turns le r = record {
  low = r.low;
  high = each (λ (x : Turn). AllByRecursion (λ r. r ≤ to.seen) (readings_of x.did.reading))
      (λ (x : Turn). AllByRecursion (λ r. r ≤ next.seen) (readings_of x.did.reading))
      (λ x h. each (λ r. r ≤ to.seen) (λ r. r ≤ next.seen) (λ r p. omega (arith, p, le)) _ h)
      turns r.high;
  rising = r.rising;
}
