use Rattle.std.proofs.Common.{◌≡◌, ◌+◌, ℕ, IsTrue, length, take}
use Rattle.std.specs.List.{concat}
use Rattle.setting_runner.specs.Runs.{AreSettingSwitches, ToldUpTo}
use Rattle.switch_settings.specs.Answers.{AreStanding}
use Rattle.switch_settings.specs.Schedules.{HaveAllReplied}
use Rattle.switch_settings.specs.Sending.{standing_before}
use Rattle.setting_runner.proofs.Going.{Going}
use Rattle.setting_runner.proofs.running.run_settings.Given as goal

abbrev pub invariant-loop-number : goal.invariant-loop-number
invariant-loop-number g l = record {
  from : l.from ≡ length (concat (take l.number l.schedule));
  going : Going l.rest l.fn.bays l.bays l.batch l.schedule l.number;
  told : ToldUpTo g.N.Notice.hears l.fn.notice l.number l.notice;
  standing : AreStanding l.rest.store.shape.modules (g.P.ConfigPort.honest l.fn.plant.port) (g.P.ConfigPort.switches l.plant.port) l.standing;
  known : l.standing ≡ standing_before l.batch l.schedule l.number;
  replied : HaveAllReplied l.rest.store.shape.modules l.batch l.schedule l.number (g.P.ConfigPort.passed l.fn.plant.port) (g.P.ConfigPort.passed l.plant.port);
  switches : (k : ℕ) → k + 1 ≡ l.number → IsTrue (g.P.ConfigPort.honest l.fn.plant.port) → AreSettingSwitches l.rest.store.shape l.batch l.schedule k
      (g.P.ConfigPort.switches l.plant.port);
  uncalled : l.number ≡ 0 → l.plant ≡ l.fn.plant;
  plant : l.plant ≡ record l.fn.plant { port = l.plant.port };
  unfailed : g.P.ConfigPort.failures l.plant.port ≡ g.P.ConfigPort.failures l.fn.plant.port;
  honesty : g.P.ConfigPort.honest l.plant.port ≡ g.P.ConfigPort.honest l.fn.plant.port;
}
