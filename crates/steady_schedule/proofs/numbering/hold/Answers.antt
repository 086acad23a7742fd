use Rattle.std.proofs.Common.{◌≡◌, ◌+◌, ◌-◌, ◌<◌, ◌≤◌, ℕ, List, Some, refl, sym, ap, ◌∙◌, subst, inl, inr, arith}
use Rattle.std.proofs.lemmas.Bool.{cases_lt}
use Rattle.batch.specs.declared.limits.TheConstants.{MAX_MODULES}
use Rattle.steady_schedule.specs.Matchings.{partner}
use Rattle.steady_schedule.specs.Steps.{AreTaken}
use Rattle.steady_schedule.proofs.Matchings.{partner_low}
use Rattle.steady_schedule.proofs.Waiting.{count_other}
use Rattle.steady_schedule.proofs.Slots.{begun, not_joined, all_numbered, joined_numbered, joined_keeps, keep_all, keep_both}
use Rattle.steady_schedule.proofs.Steps.{none_taken, untouched, free_taken, joined_taken, all_taken, after_now, near_from_counts}
use Rattle.steady_schedule.proofs.Sums.{partner_cases}
use Rattle.steady_schedule.proofs.numbering.hold.Goals as goal
use Rattle.steady_schedule.specs.Slots.{AreNumberedFrom}
use Rattle.steady_schedule.specs.Waiting.{count_at}

pub hold_one-requires-clause-there : goal.hold_one-requires-clause-there
hold_one-requires-clause-there c y now =
    let m = c.args.matching.now in
    let joined : partner m.zero c.loop-zero.zero ≡ Some y = sym (c.loop-zero.invariant.ahead c.loop-zero.zero (omega arith)) ∙ now in
    omega (
      arith,
      c.requires.there c.loop-zero.zero y joined,
      untouched m.zero c.args.settings c.loop-zero.zero c.args.remaining.now.counts
          c.loop-zero.remaining.counts c.loop-zero.invariant.taken (omega (arith, c.loop-zero-test.true, c.requires.within)) y
          (partner_low m.zero m.three c.loop-zero.zero y m.matched joined),
    )

pub hold_one-requires-clause-within : goal.hold_one-requires-clause-within
hold_one-requires-clause-within c = record { sized = c.loop-zero.invariant.numbered.numbered.sized; within = c.loop-zero.invariant.numbered.numbered.within }

pub loop-zero-init : goal.loop-zero-init
loop-zero-init c = record {
  taken = none_taken c.args.matching.now.zero c.args.settings c.args.remaining.now.counts c.args.remaining.now.told.places;
  numbered = begun c.args.places.now.totals.now c.args.remaining.now.counts c.args.slots.now c.args.matching.now.zero c.args.first c.args.settings
      c.requires.numbered;
  ahead = λ x le. refl;
  behind = λ x y lt. absurd (omega arith);
  kept = keep_all c.args.places.now.totals.now c.args.first c.args.remaining.now.counts c.args.slots.now;
}

pub loop-zero-preserved : goal.loop-zero-preserved
loop-zero-preserved c =
    let m = c.args.matching.now in
    let n = c.loop-zero.zero in
    let first = c.args.first in
    let k = c.args.settings in
    let totals = c.args.places.now.totals.now in
    let start = c.args.remaining.now.counts in
    let counts = c.loop-zero.remaining.counts in
    let slots = c.loop-zero.slots in
    let so_far = c.loop-zero.invariant in
    let old = c.loop-zero.matching in
    let now = c.hold_one.new.matching in
    let after = c.hold_one.new.remaining.counts in
    let n_in : n < MAX_MODULES = omega (arith, c.loop-zero-test.true, c.requires.within) in
    let here = so_far.ahead n (omega arith) in
    let ahead : (x : ℕ) → n + 1 ≤ x → partner now.zero x ≡ partner m.zero x = λ x le. c.hold_one.ensures.others x (λ e. omega (arith, e, le))
    ∙ so_far.ahead x (omega (arith, le)) in
    let behind = after_now old.zero now.zero counts after n so_far.behind c.hold_one.ensures.others c.hold_one.ensures.rest in
    partner_cases (partner m.zero n) _
    (λ none.
    let h = c.hold_one.ensures.free (here ∙ none) in
    record {
      taken = rw h.same (free_taken m.zero k n start counts so_far.taken n_in none);
      ahead = ahead;
      behind = behind (λ x y ne was. ap (λ (xs : List ℕ). count_at xs x y) h.same);
      numbered = rw (h.same, h.slots_same) (not_joined totals counts slots m.zero first n (first + k) none so_far.numbered);
      kept = rw (h.same, h.slots_same) so_far.kept;
    })
    (λ y joined.
    let h = c.hold_one.ensures.joined y (here ∙ joined) in
    let y_in = partner_low m.zero m.three n y m.matched joined in
    let there : k ≤ count_at counts n y = omega (arith, c.requires.there n y joined, untouched m.zero k n start counts so_far.taken n_in y y_in) in
    let places = c.loop-zero.remaining.told.places in
    record {
      taken = rw h.taken (joined_taken m.zero k n start counts so_far.taken n_in y y_in joined);
      ahead = ahead;
      behind = behind (λ x v ne was. ap (λ (xs : List ℕ). count_at xs x v) h.taken ∙ count_other counts n y (count_at counts n y - k) places n_in y_in x v
          (partner_low old.zero old.three x v old.matched was) (λ e _. ne (sym e)));
      numbered = rw h.taken (joined_numbered totals counts slots c.hold_one.new.slots m.zero m.three first k n y m.matched joined so_far.numbered places there
          h.written);
      kept = rw h.taken (keep_both totals first start c.args.slots.now counts slots _ c.hold_one.new.slots so_far.kept
          (joined_keeps totals counts slots c.hold_one.new.slots m.zero m.three first k n y m.matched joined so_far.numbered places there h.written));
    })

pub returns : goal.returns
returns c =
    let all : c.loop-zero.zero ≡ c.args.modules = omega arith in
    let so_far = c.loop-zero.invariant in
    let zero = c.args.matching.now.zero in
    let start = c.args.remaining.now.counts in
    let remaining = c.loop-zero.remaining in
    let now = c.loop-zero.matching in
    let counts = remaining.counts in
    let totals = c.args.places.now.totals.now in
    let next = c.args.first + c.args.settings in
    record {
      taken = all_taken zero c.args.settings c.args.modules start counts c.requires.within c.requires.low
          (subst (λ (n : ℕ). AreTaken zero c.args.settings n start counts) all so_far.taken);
      near = λ x y joined. near_from_counts counts remaining.zero.near remaining.zero.uses remaining.three.near remaining.three.uses remaining.told now.zero
          now.three now.matched x y joined
          (elim (cases_lt x c.args.modules) [
            | inl lt ↦ so_far.behind x y (omega arith) joined
            | inr le ↦ absurd (omega (arith, c.requires.low x y (sym (so_far.ahead x (omega (arith, all, le))) ∙ joined), le))
          ]);
      numbered = all_numbered totals counts c.loop-zero.slots zero c.args.first c.args.modules next c.requires.within c.requires.low
          (subst (λ (n : ℕ). AreNumberedFrom zero c.args.first n totals counts c.loop-zero.slots next) all so_far.numbered);
      kept = so_far.kept;
    }
