use Rattle.std.proofs.lemmas.Result.{IfOk-weaker}
use Rattle.plan_answers.specs.Refusals.{Refuses}
use Rattle.plan_answers.specs.Schedules.{said_by}
use Rattle.rack_answers.specs.Orders.{IsOrdered, TellsOrders, ordered, wrong}
use Rattle.rack_answers.proofs.ordering.answer_orders.Goals as goal

pub returns-in-Ok : goal.returns-in-Ok
returns-in-Ok g c =
    let its = c.in-Ok.scheduled in
    let tells = rw (c.batch.ensures, c.schedule.ensures.schedule) at c.orders_answer.ensures in
    IfOk-weaker c.orders_answer.result (TellsOrders its.batch its.settings c.args.only) (IsOrdered (said_by c.args.source) c.args.only c.args.batch.now)
    (λ p told. ordered its.batch its.settings c.in-Ok.ensures.schedule told) tells

pub returns-in-Err : goal.returns-in-Err
returns-in-Err g c =
    IfOk-weaker c.refused.result (Refuses c.in-Err.refusal) (IsOrdered (said_by c.args.source) c.args.only c.args.batch.now)
    (λ p is. wrong c.in-Err.refusal (c.in-Err.ensures.wrong is.0) is.1) c.refused.ensures
