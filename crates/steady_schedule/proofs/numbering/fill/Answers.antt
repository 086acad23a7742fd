use Rattle.std.proofs.Common.{◌≡◌, ◌-◌, ◌+◌, subst, sym, arith}
use Rattle.steady_schedule.specs.Waiting.{HaveMost}
use Rattle.steady_schedule.proofs.Matchings.{has_low}
use Rattle.steady_schedule.proofs.Needs.{none_over, still_needed}
use Rattle.steady_schedule.proofs.Slots.{all_taken, none_numbered}
use Rattle.steady_schedule.proofs.Steps.{less_waits, none_wait}
use Rattle.steady_schedule.proofs.numbering.fill.Goals.{then-first-eq0, else-first-eq0}
use Rattle.steady_schedule.proofs.numbering.fill.Goals as goal

pub hold-requires-clause-there : goal.hold-requires-clause-there
hold-requires-clause-there c x y joined =
    (c.any_step-held.ensures.can.each x (has_low c.any_step-held.new.matching.zero x y c.any_step-held.new.matching.matched.sized joined)).pair y joined

pub steps-init : goal.steps-init
steps-init c =
    let whole : c.args.settings - 0 ≡ c.args.settings = omega arith in
    let totals = c.args.places.now.totals.now in
    let counts = c.args.remaining.now.counts in
    record {
      some = c.requires.some_longest;
      steps = omega arith;
      some_top = c.requires.some_longest;
      few = omega arith;
      most = subst (HaveMost counts) (sym whole) c.requires.most;
      numbered = rw c.requires.whole (none_numbered totals c.args.slots.now c.requires.room);
      none = c.modules-modules.ensures.none;
      near = λ x y joined. absurd (omega (arith, c.none-matching.ensures x y joined));
      needs = none_over totals counts c.args.slots.now c.args.settings;
    }

pub steps-preserved : goal.steps-preserved
steps-preserved c =
    let can = c.any_step-held.ensures.can in
    let m = c.any_step-held.new.matching in
    let totals = c.args.places.now.totals.now in
    let most = c.args.settings - c.steps.first in
    let k = c.any_step-held.result in
    let after = c.hold.new.remaining.counts in
    let rest : most - k ≡ c.args.settings - (c.steps.first + k) = omega arith in
    record {
      some = c.any_step-held.ensures.some_longest;
      steps = omega (arith, can.some);
      some_top = elim c.if-first-eq0.branch [
        | then-first-eq0 w ↦ rw w.top-is c.any_step-held.ensures.some_longest
        | else-first-eq0 w ↦ rw w.top-is c.steps.invariant.some_top
      ];
      few = omega (arith, can.few);
      most = subst (HaveMost after) rest (less_waits m.zero m.three m.matched k c.steps.left.counts after c.hold.ensures.taken most c.steps.invariant.most can);
      numbered = c.hold.ensures.numbered.numbered;
      none = none_wait m.zero m.three m.matched k c.steps.left.counts after c.hold.ensures.taken most c.steps.invariant.most can c.modules-modules.result
          c.steps.invariant.none;
      near = c.hold.ensures.near;
      needs = still_needed totals c.steps.left.counts c.steps.slots after c.hold.new.slots m.zero m.three m.matched c.args.settings c.steps.first k
          c.steps.invariant.few c.hold.ensures.taken c.steps.invariant.most can c.hold.ensures.kept c.hold.ensures.numbered c.steps.invariant.needs;
    }

pub returns-clause-filled : goal.returns-clause-filled
returns-clause-filled c less =
    let none : c.args.settings - c.steps.first ≡ 0 = omega arith in
    let all : c.steps.first ≡ c.args.settings = omega (arith, c.steps.invariant.few) in
    record {
      counts = c.steps.left.counts;
      done = all_taken c.steps.left.counts (subst (HaveMost c.steps.left.counts) none c.steps.invariant.most);
      numbered = rw all at c.steps.invariant.numbered;
      needs = rw all at c.steps.invariant.needs;
    }
