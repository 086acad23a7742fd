-- How what one part of a session asks follows what another one asked.
use Rattle.std.proofs.Common.{◌≡◌, ℕ, ◌+◌, ◌<◌, ◌≤◌, List, [], length, Option, Some, None, Result, Ok, Err, IfOk, IfErr, MatchOption, MatchResult, subst, arith}
use Rattle.client_session.specs.declared.limits.TheConstants.{MAX_READS}
use Rattle.client_session.specs.declared.fault.ServeFault.{ServeFault}
use Rattle.client_session.specs.declared.fault.ServeFault.TheVariants as fault
use Rattle.client_session.specs.declared.input.InputFault.{InputFault}
use Rattle.client_session.specs.declared.input.InputFault.TheVariants.{Cut}
use Rattle.std.specs.Result.{result_and}
use Rattle.client_session.specs.Sessions.{fault_in}
use Rattle.client_session.specs.Asking.{RisesBy, IsWithinLimit, AsksWithinLimit, StopsAsking, GivesEachTime}
use Rattle.client_session.specs.Bytes.{PendingInput}
use Rattle.client_session.specs.Seats.{SeatView}
use Rattle.client_session.specs.Steps.{AreUntold, of_input}

pub RisesBy-none : (a : Option ℕ) → RisesBy a a 0
RisesBy-none None = tt
RisesBy-none (Some k) = omega arith

RisesBy-more : (a b c : Option ℕ) (k l : ℕ) → RisesBy a b k → RisesBy b c l → RisesBy a c (k + l)
RisesBy-more None b c k l p q = tt
RisesBy-more (Some x) None c k l p q = absurd p
RisesBy-more (Some x) (Some y) None k l p q = absurd q
RisesBy-more (Some x) (Some y) (Some z) k l p q = omega (arith, p, q)

-- it wasn't asked
pub gives_none : {a : Option ℕ} {m n : ℕ} → n ≡ m → m ≤ MAX_READS → GivesEachTime a a m n
gives_none {a} same few = record { asks = 0; counted = RisesBy-none a; all = omega (arith, same); few = omega (arith, same, few) }

pub gives_more : {a b c : Option ℕ} {m n p : ℕ} → GivesEachTime a b m n → GivesEachTime b c n p → GivesEachTime a c m p
gives_more {a} {b} {c} s t = record {
  asks = s.asks + t.asks;
  counted = RisesBy-more a b c s.asks t.asks s.counted t.counted;
  all = omega (arith, s.all, t.all);
  few = t.few;
}

pub stops_after : {a b c : Option ℕ} {m n : ℕ} {end : Option ServeFault} → GivesEachTime a b m n → StopsAsking b c n end → StopsAsking a c m end
stops_after {a} {b} {c} {m} {n} {end} s t =
    let all : n + t.asks ≡ m + (s.asks + t.asks) = omega (arith, s.all) in
    record {
      asks = s.asks + t.asks;
      counted = RisesBy-more a b c s.asks t.asks s.counted t.counted;
      within = subst (λ k. IsWithinLimit end k) all t.within;
    }

-- it isn't asked any more
pub stops_here : {a b : Option ℕ} {m n : ℕ} (end : Option ServeFault) → GivesEachTime a b m n → (n ≤ MAX_READS → IsWithinLimit end n) → StopsAsking a b m end
stops_here end s within = record { asks = s.asks; counted = s.counted; within = subst (λ k. IsWithinLimit end k) s.all (within s.few) }

-- nothing was read before
pub asks_all : {a b : Option ℕ} {end : Option ServeFault} → StopsAsking a b 0 end → AsksWithinLimit a b end
asks_all {a} {b} {end} s =
    let all : 0 + s.asks ≡ s.asks = omega arith in
    record { asks = s.asks; counted = s.counted; within = subst (λ k. IsWithinLimit end k) all s.within }

-- the input ends within a line, or within a batch
pub stops_cut : {a b : Option ℕ} {m : ℕ} → StopsAsking a b m None → StopsAsking a b m (Some fault.Cut)
stops_cut s = record { asks = s.asks; counted = s.counted; within = s.within }

-- the read that finds the end was made
pub asked_at_end : (r : Result (Option ℕ) InputFault) (a b : Option ℕ) (m n : ℕ) (h : PendingInput) → StopsAsking a b m None
    → IfOk r (λ found. (found ≡ None) × (h.pending ≡ [])) → IfErr r (λ e. (e ≡ Cut) × (0 < length h.pending))
    → MatchResult r (λ found. MatchOption found (StopsAsking a b m None) (λ _. GivesEachTime a b m n)) (λ e. StopsAsking a b m (Some (of_input e)))
asked_at_end (Ok found) a b m n h s ok err = rw ok.0 s
asked_at_end (Err e) a b m n h s ok err = rw err.0 (stops_cut s)

few_reads : (end : Option ServeFault) (reads : ℕ) → IsWithinLimit end reads → reads ≤ MAX_READS
few_reads (Some fault.Turns) reads is = omega (arith, is)
few_reads end reads is = is

-- nor where lines couldn't be told
within_untold : (e : ServeFault) (old new : SeatView) (w v : Option (List ℕ)) (lines : List ℕ) (reads : ℕ) → AreUntold e old new w v lines → reads ≤ MAX_READS
    → IsWithinLimit (Some e) reads
within_untold fault.Write old new w v lines reads is few = few
within_untold fault.Record old new w v lines reads is few = few
within_untold e old new w v lines reads is few = absurd is

pub asks_no_more : {a b : Option ℕ} {n : ℕ} (e : ServeFault) (old new : SeatView) (w v : Option (List ℕ)) (lines : List ℕ) → AreUntold e old new w v lines
    → GivesEachTime a b 0 n → AsksWithinLimit a b (Some e)
asks_no_more e old new w v lines is s =
    record { asks = s.asks; counted = s.counted; within = within_untold e old new w v lines s.asks is (omega (arith, s.all, s.few)) }

pub asks_still : {a b : Option ℕ} (end : Option ServeFault) (e : ServeFault) (old new : SeatView) (w v : Option (List ℕ)) (lines : List ℕ)
    → AreUntold e old new w v lines → AsksWithinLimit a b end → AsksWithinLimit a b (Some e)
asks_still end e old new w v lines is s =
    record { asks = s.asks; counted = s.counted; within = within_untold e old new w v lines s.asks is (few_reads end s.asks s.within) }

pub asks_or : {T U : Type 0} (r : Result T ServeFault) (ended : Result U ServeFault) {a b : Option ℕ} (old new : SeatView) (w v : Option (List ℕ))
    (lines : List ℕ) → IfErr r (λ e. AreUntold e old new w v lines) → AsksWithinLimit a b (fault_in ended) → AsksWithinLimit a b (fault_in (result_and r ended))
asks_or (Ok x) ended old new w v lines err s = s
asks_or (Err e) ended old new w v lines err s = asks_still (fault_in ended) e old new w v lines err s
