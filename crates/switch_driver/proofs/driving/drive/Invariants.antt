use Rattle.std.proofs.Common.{◌≡◌, ◌+◌, ℕ}
use Rattle.switch_settings.specs.RackWirings.{AreStandingIn}
use Rattle.switch_driver.specs.Driving.{HaveStood, standing_after}
use Rattle.switch_driver.proofs.driving.drive.Given as goal

abbrev pub invariant-loop-setting : goal.invariant-loop-setting
invariant-loop-setting g l = record {
  count : ℕ;
  at : l.first + count ≡ l.setting;
  stood : HaveStood g.S.DriveObserver.hears l.rack l.batch l.schedule l.first count (g.P.ConfigPort.passed l.initial.port) l.initial.stage
      (g.P.ConfigPort.passed l.port) l.stage;
  known : l.standing ≡ standing_after l.batch l.schedule l.first count;
  standing : AreStandingIn l.rack (g.P.ConfigPort.honest l.port) (g.P.ConfigPort.switches l.port) l.standing;
  unfailed : g.P.ConfigPort.failures l.port ≡ g.P.ConfigPort.failures l.initial.port;
  honesty : g.P.ConfigPort.honest l.port ≡ g.P.ConfigPort.honest l.initial.port;
}
