use Rattle.steady_schedule.proofs.NeedChanges.{need_changes}
use Rattle.steady_schedule.proofs.laws.partners_need_changes.Goals as goal

pub returns : goal.returns
returns c = need_changes
