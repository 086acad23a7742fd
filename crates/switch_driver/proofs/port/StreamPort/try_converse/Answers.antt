use Rattle.switch_driver.proofs.Conversing.{none_passed}
use Rattle.switch_driver.proofs.port.StreamPort.try_converse.Goals as goal

pub returns-in-B-None-clause-broken : goal.returns-in-B-None-clause-broken
returns-in-B-None-clause-broken g c = none_passed _ _ _
