-- What passes over the configuration links in a run, where the port tells it.
use Rattle.std.specs.Prelude.{◌≡◌, ℕ, List, length, Option}
use Rattle.batch.specs.declared.transfer.Transfer.{Transfer}
use Rattle.crossbar.specs.declared.pair.Pair.{Pair}
use Rattle.crossbar.specs.declared.traffic.Passing.{Passing}
use Rattle.setting_runner.specs.declared.outcome.Outcome.{Outcome}
use Rattle.setting_runner.specs.declared.outcome.Outcome.TheVariants.{Completed, Refused, Stopped}
use Rattle.setting_runner.specs.declared.outcome.StopCause.{StopCause}
use Rattle.setting_runner.specs.declared.outcome.StopCause.TheVariants.{Port, SwitchDisagrees, Wire}
use Rattle.switch_settings.specs.Answers.{number_of}
use Rattle.switch_settings.specs.Asking.{HaveReplied, HavePassedFor}
use Rattle.switch_settings.specs.Schedules.{HaveAllReplied}
use Rattle.switch_settings.specs.Sending.{pairs_at, standing_before}
use Rattle.switch_settings.specs.declared.fault.Disagreement.{Disagreement}
use Rattle.switch_settings.specs.declared.fault.SettingFault.TheVariants as fault

-- What passed for a setting that stopped for this cause: it broke off where the port failed. It
-- went to its end where a switch disagreed, and where all replied as they should and a wire failed.
abbrev pub PassesFor : ℕ → StopCause → Option (List Pair) → List Pair → Option (List Passing)
    → Option (List Passing) → Type 0
PassesFor modules Port standing pairs old new =
    HavePassedFor modules fault.Port standing pairs old new
PassesFor modules (SwitchDisagrees output) standing pairs old new =
    (found : Disagreement) × (number_of found ≡ output)
    × HavePassedFor modules (fault.Switch found) standing pairs old new
PassesFor modules (Wire transfer) standing pairs old new =
    HaveReplied modules standing pairs old new

-- What passed in a run on a rack of so many modules that ended so: all settings were sent, asked
-- for and replied to as they call for, or those before the one that stopped, and of that a part.
-- Nothing passed where the run was refused.
abbrev pub LeavesTraffic : ℕ → List Transfer → List (List ℕ) → Outcome → Option (List Passing)
    → Option (List Passing) → Type 0
LeavesTraffic modules batch settings (Completed done words) old new =
    HaveAllReplied modules batch settings (length settings) old new
LeavesTraffic modules batch settings (Refused refusal) old new = new ≡ old
LeavesTraffic modules batch settings (Stopped k cause moved) old new =
    (mid : Option (List Passing)) × HaveAllReplied modules batch settings k old mid
    × PassesFor modules cause (standing_before batch settings k) (pairs_at batch settings k)
    mid new
