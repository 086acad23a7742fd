use Rattle.std.proofs.Common.{◌≡◌, ◌+◌, ◌-◌, arith}
use Rattle.c004_commands.specs.declared.port.TheConstants.{PORTS}
use Rattle.switch_driver.proofs.ComingUp.{answers_more, passed_then}
use Rattle.switch_driver.proofs.Streams.{carried_none, carried_then}
use Rattle.switch_driver.specs.ComingUp.{own_answer}
use Rattle.switch_driver.proofs.switch_start.hear_from.Goals as goal

pub loop-output-init : goal.loop-output-init
loop-output-init g c = record { count = 0; at = omega arith; carried = carried_none _ _ _ _ }

pub returns-in_err-came-clause-passed : goal.returns-in_err-came-clause-passed
returns-in_err-came-clause-passed g c = passed_then _ _ _ _ _ _ _ _ (_, c.loop-output.invariant.carried) (_, c.in_err-came.ensures.silent)

pub returns-then-came-output-clause-passed : goal.returns-then-came-output-clause-passed
returns-then-came-output-clause-passed g c = passed_then _ _ _ _ _ _ _ _ (_, c.loop-output.invariant.carried) (_, c.in_ok-came.ensures.heard)

pub loop-output-preserved : goal.loop-output-preserved
loop-output-preserved g c =
    let so_far = c.loop-output.invariant in
    let is : c.in_ok-came.came ≡ own_answer c.loop-output.output = c.if-came-output.false in
    let heard = rw is at c.in_ok-came.ensures.heard in
    record {
      count = so_far.count + 1;
      at = omega (arith, so_far.at);
      carried = rw (answers_more c.args.chip c.args.first so_far.count c.loop-output.output so_far.at) (carried_then _ _ _ _ _ _ _ _ _ _ so_far.carried heard);
    }

pub returns-clause-heard : goal.returns-clause-heard
returns-clause-heard g c =
    let so_far = c.loop-output.invariant in
    let all : so_far.count ≡ PORTS - c.args.first = omega (arith, so_far.at, c.loop-output-test.false, c.requires) in
    rw all at so_far.carried.noted
