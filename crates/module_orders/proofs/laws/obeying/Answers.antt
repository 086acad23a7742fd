use Rattle.module_orders.proofs.Obeyed.{obeyed_is_placed, run_is_obeyed}
use Rattle.module_orders.proofs.laws.obeying.Goals as goal

pub returns-clause-placed : goal.returns-clause-placed
returns-clause-placed c = obeyed_is_placed

pub returns-clause-any_order : goal.returns-clause-any_order
returns-clause-any_order c = run_is_obeyed
