-- What a run leaves of the plant that it worked with.
use Rattle.std.specs.Prelude.{◌≡◌, ℕ, ◌≤◌, List, [], IsTrue, Option, IfSome}
use Rattle.batch.specs.ShapeView.{ShapeView}
use Rattle.batch.specs.declared.transfer.Transfer.{Transfer}
use Rattle.crossbar.specs.declared.port.ConfigPort.{Ghosts}
use Rattle.setting_runner.specs.declared.outcome.Outcome.{Outcome}
use Rattle.setting_runner.specs.declared.plant.Plant.{Plant}
use Rattle.setting_runner.specs.Runs.{HasCause, IsRefusedRun, LeavesSwitches}
use Rattle.setting_runner.specs.Traffic.{LeavesTraffic}

-- a batch, and the settings of a schedule of it
abbrev pub RunSchedule : Type 0
RunSchedule = List Transfer × List (List ℕ)

-- What a run of this schedule, if there is one, leaves of its plant on a rack of this shape, where
-- it ends so. The first two say what is seen of the port, and which wires never fail.
pub record LeavesPlant {P W G : Type 0} (seen : Ghosts P) (sure : W → ℕ → Type 0)
    (shape : ShapeView)
    (ran : Option RunSchedule) (outcome : Outcome) (old new : Plant P W G) : Type 0 where
  -- a run that stopped has a cause, and the port has failed in no other
  pub cause :
      HasCause (record {
        sure = sure old.wires;
        shape = shape;
        before = seen.failures old.port;
        after = seen.failures new.port;
        honest = seen.honest old.port;
      }) outcome
  -- the switches of an honest port are those of the setting that was run last
  pub switches : IsTrue (seen.honest old.port) →
      IfSome ran (λ s. LeavesSwitches shape s.0 s.1 outcome (seen.switches new.port))
  -- what passed over a port that tells it is what the settings call for
  pub traffic :
      IfSome ran (λ s.
      LeavesTraffic shape.modules s.0 s.1 outcome (seen.passed old.port) (seen.passed new.port))
  -- where the run is refused nothing is done, nor where its schedule has no setting
  pub refused : IsRefusedRun outcome → new ≡ old
  pub uncalled : IfSome ran (λ s. s.1 ≡ [] → new ≡ old)
  -- all but the port is as it was; its failures never fall, and it is as honest as it was
  pub others : new ≡ record old { port = new.port }
  pub counted : seen.failures old.port ≤ seen.failures new.port
  pub honesty : seen.honest new.port ≡ seen.honest old.port
