use Rattle.std.proofs.Common.{◌≤◌, ℕ, refl, ap, ◌∙◌, inl, inr, arith}
use Rattle.std.specs.Prelude.{min}
use borrow.Author.Count.{below_more}
use Rattle.std.proofs.lemmas.Bool.{cases_lt}
use Rattle.steady_schedule.specs.Steps.{CanHoldAt}
use Rattle.steady_schedule.specs.Steps.IsTight.{all}
use Rattle.steady_schedule.proofs.Steps.{held_less, tighter, none_held}
use Rattle.steady_schedule.proofs.stepping.longest_hold.Goals as goal

pub loop-module-init : goal.loop-module-init
loop-module-init c = record { some = c.requires.some; few = omega arith; each = λ x lt. absurd (omega arith); tight = all refl }

pub loop-module-preserved : goal.loop-module-preserved
loop-module-preserved c =
    let counts = c.args.remaining.now.counts in
    let m = c.args.matching.now in
    let k = c.min-settings.result in
    let t = c.three_room.result in
    let zero : k ≤ c.zero_room.result = omega (arith, c.min.ensures, c.min-settings.ensures) in
    let three : k ≤ t = omega (arith, c.min.ensures, c.min-settings.ensures) in
    let old : k ≤ c.loop-module.settings = omega (arith, c.min.ensures, c.min-settings.ensures) in
    let is = c.min-settings.ensures ∙ ap (λ (q : ℕ). min q t) c.min.ensures in
    record {
      some = omega (arith, c.min.ensures, c.min-settings.ensures, c.zero_room.ensures.some, c.three_room.ensures.some, c.loop-module.invariant.some);
      few = omega (arith, old, c.loop-module.invariant.few);
      each = below_more (CanHoldAt counts m.zero m.three c.args.most k) c.loop-module.module
          (λ x lt. held_less counts m.zero m.three c.args.most c.loop-module.settings k x old (c.loop-module.invariant.each x lt)) (record {
            pair = λ y joined. omega (arith, zero, c.zero_room.ensures.pair y joined);
            zero_out = λ none. omega (arith, zero, c.zero_room.ensures.out none);
            three_out = λ none. omega (arith, three, c.three_room.ensures.out none);
          });
      tight = tighter counts m.zero m.three c.args.most c.loop-module.settings c.zero_room.result t k c.loop-module.module
          (omega (arith, c.loop-module-test.true, c.requires.within)) is c.loop-module.invariant.tight c.zero_room.ensures.pair c.zero_room.ensures.out
          c.three_room.ensures.pair c.three_room.ensures.out;
    }

pub returns : goal.returns
returns c =
    let l = c.args.remaining.now in
    let m = c.args.matching.now in
    let so_far = c.loop-module.invariant in
    record {
      some = so_far.some;
      few = so_far.few;
      each = λ x x_in. elim (cases_lt x c.args.modules) [
        | inl lt ↦ so_far.each x (omega arith)
        | inr le ↦ none_held l.counts l.zero.near l.zero.uses l.three.near l.three.uses l.told m.zero m.three m.matched c.args.modules c.requires.none
            c.requires.near c.args.most c.loop-module.settings x so_far.few le x_in
      ];
      tight = so_far.tight;
    }
