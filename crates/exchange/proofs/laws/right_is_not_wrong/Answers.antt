use Rattle.exchange.proofs.PromisedRights.{not_right}
use Rattle.exchange.proofs.laws.right_is_not_wrong.Goals as goal

pub returns : goal.returns
returns c = not_right c.one_reading.ensures.wiring c.one_reading.ensures.apart
