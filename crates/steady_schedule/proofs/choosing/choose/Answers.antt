use Rattle.std.proofs.Common.{arith}
use Rattle.steady_schedule.proofs.choosing.choose.Goals as goal

pub lengths-init : goal.lengths-init
lengths-init c =
    let made = c.of-choice.ensures in
    record {
      some = omega (arith, made.settings, c.min.ensures, c.requires.some, c.requires.some_longest);
      left = omega (arith, made.settings, c.min.ensures);
      each = rw made.settings made.each;
      held = rw made.settings made.held;
      shorter = omega (arith, made.settings, made.shorter);
      joined = rw made.settings made.joined;
    }

pub lengths-preserved : goal.lengths-preserved
lengths-preserved c =
    let made = c.of-choice-in-lengths.ensures in
    let was = c.lengths.invariant in
    record {
      some = omega (arith, made.settings, c.lengths-test.true);
      left = omega (arith, made.settings, was.left, was.shorter);
      each = rw made.settings made.each;
      held = rw made.settings made.held;
      shorter = omega (arith, made.settings, made.shorter);
      joined = rw made.settings made.joined;
    }
