use Rattle.move_directions.proofs.Bounds.{module_bound}
use Rattle.move_directions.proofs.laws.busiest_module.Goals as goal

pub returns : goal.returns
returns c = module_bound
