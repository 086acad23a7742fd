use Rattle.std.proofs.Common.{None, false}
use Rattle.plan_answers.specs.Schedules.{said_by}
use Rattle.rack_answers.specs.Orders.{IsOrdered}
use Rattle.rack_answers.specs.Switching.{IsSwitched}
use Rattle.exchange_c.proofs.Switching.{answered_by, switched_on}
use Rattle.exchange_c.proofs.why.LibraryCall.answer.Goals as goal

pub returns-in-Check : goal.returns-in-Check
returns-in-Check c =
    rw c.in-Check.is c.answer_check.ensures.checked

pub returns-in-Switch : goal.returns-in-Switch
returns-in-Switch c =
    rw c.in-Switch.is (answered_by c.answer_switch.result (λ source. IsSwitched source false None c.args.given.first.now) c.args.given.second.now
    c.source_of.result c.source_of.ensures c.answer_switch.ensures)

pub returns-in-Apply : goal.returns-in-Apply
returns-in-Apply c =
    rw c.in-Apply.is c.answer_apply.ensures

pub returns-in-Draw : goal.returns-in-Draw
returns-in-Draw c =
    rw c.in-Draw.is c.answer_draw.ensures

pub returns-in-Changes : goal.returns-in-Changes
returns-in-Changes c =
    rw c.in-Changes.is c.answer_changes.ensures

pub returns-in-SwitchWired : goal.returns-in-SwitchWired
returns-in-SwitchWired c =
    rw c.in-SwitchWired.is (switched_on c.answer_switch-in-SwitchWired.result c.args.given.third.now c.args.given.first.now c.args.given.second.now
    (said_by c.source_of-in-SwitchWired.result) c.source_of-in-SwitchWired.ensures c.answer_switch-in-SwitchWired.ensures)

pub returns-in-Orders : goal.returns-in-Orders
returns-in-Orders c =
    rw c.in-Orders.is (answered_by c.answer_orders.result (λ source. IsOrdered source None c.args.given.first.now) c.args.given.second.now
    c.source_of-in-Orders.result c.source_of-in-Orders.ensures c.answer_orders.ensures)
