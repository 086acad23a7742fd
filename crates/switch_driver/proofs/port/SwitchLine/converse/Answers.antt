use Rattle.std.proofs.Common.{refl}
use Rattle.switch_driver.proofs.Conversing.{none_passed}
use Rattle.switch_driver.proofs.Streams.{at_err}
use Rattle.switch_driver.proofs.ComingUp.{passed_none}
use Rattle.switch_driver.proofs.port.SwitchLine.converse.Goals as goal

pub returns-in_err-bring_up-clause-carried : goal.returns-in_err-bring_up-clause-carried
returns-in_err-bring_up-clause-carried g c = record {
  mid = c.bring_up.new.self.stream;
  came = c.in_err-bring_up.ensures.passed;
  once = c.in_err-bring_up.ensures.once;
  went = passed_none _ _ _ _;
  down = λ _. (refl, refl);
}

pub returns-clause-carried : goal.returns-clause-carried
returns-clause-carried g c = record {
  mid = c.bring_up.new.self.stream;
  came = c.in_ok-bring_up.ensures.passed;
  once = c.in_ok-bring_up.ensures.once;
  went = c.converse.ensures.carried;
  down = λ down. absurd (down c.in_ok-bring_up.ensures.is_up);
}

pub returns-in_err-bring_up-clause-broken : goal.returns-in_err-bring_up-clause-broken
returns-in_err-bring_up-clause-broken g c = at_err c.from_residual.result (none_passed _ _ _)
