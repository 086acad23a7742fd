use Rattle.std.proofs.Common.{None}
use Rattle.rack_answers.specs.Orders.{IsOrdered}
use Rattle.exchange_c.specs.Switching.{IsOrderedBy}
use Rattle.exchange_c.proofs.Switching.{answered_by}
use Rattle.exchange_c.proofs.Writing.{left}
use Rattle.exchange_c.proofs.exchange_orders.Goals as goal

pub returns : goal.returns
returns c =
    let is = answered_by c.answer_orders-answer.result (λ source. IsOrdered source None c.args.batch.now) c.args.schedule.now c.source_of-source.result
    c.source_of-source.ensures c.answer_orders-answer.ensures in
    left _ (IsOrderedBy c.args.batch.now c.args.schedule.now) c.args.out.now c.leave.new.out c.leave.new.count c.leave.result is c.leave.ensures.some
    c.leave.ensures.none
