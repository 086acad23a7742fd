use Rattle.std.proofs.Common.{ap, ◌∙◌}
use Rattle.std.proofs.lemmas.Result.{IfOk-weaker}
use Rattle.module_orders.specs.Orders.{RackTold, told_to}
use Rattle.module_orders.specs.OrdersText.{orders_text}
use Rattle.refusals.specs.declared.refusal.Refusal.TheVariants.{Overlap}
use Rattle.plan_answers.specs.Refusals.{Refuses}
use Rattle.rack_answers.specs.Orders.{TellsOrders, overlap, told}
use Rattle.rack_answers.proofs.ordering.orders_answer.Goals as goal

pub returns-in-Some : goal.returns-in-Some
returns-in-Some c =
    IfOk-weaker c.refused.result (Refuses (Overlap c.in-Some.i c.in-Some.j)) (TellsOrders c.args.batch.now c.args.schedule.now c.args.only)
    (λ p is. overlap c.in-Some.i c.in-Some.j c.in-Some.ensures.first is.1) c.refused.ensures

pub returns : goal.returns
returns c = told c.in_default.ensures.none (c.done.ensures.text ∙ c.in_ok-write.ensures ∙ ap (λ (o : RackTold). orders_text (told_to c.args.only o))
    c.in_ok-orders.ensures) c.done.ensures.status
