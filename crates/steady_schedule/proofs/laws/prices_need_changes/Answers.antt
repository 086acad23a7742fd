use Rattle.steady_schedule.proofs.Prices.{needed_by}
use Rattle.steady_schedule.proofs.laws.prices_need_changes.Goals as goal

pub returns : goal.returns
returns c = needed_by
