use Rattle.plan_answers.specs.Directing.{IsDirected}
use Rattle.exchange_c.proofs.Writing.{left}
use Rattle.exchange_c.proofs.exchange_direct.Goals as goal

pub returns : goal.returns
returns c = left _ (IsDirected c.args.moves.now) c.args.out.now c.leave.new.out c.leave.new.count c.leave.result c.answer_direct.ensures c.leave.ensures.some
    c.leave.ensures.none
