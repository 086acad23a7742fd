-- What passes over the configuration links, setting by setting.
use Rattle.std.proofs.Common.{◌≡◌, ℕ, List, Option, Result, Ok, Err, refl}
use Rattle.std.specs.Prelude.{IfErr}
use Rattle.crossbar.specs.declared.pair.Pair.{Pair}
use Rattle.crossbar.specs.declared.traffic.Passing.{Passing}
use Rattle.setting_runner.specs.Causes.{cause_of}
use Rattle.setting_runner.specs.Runs.{IsShortfall}
use Rattle.setting_runner.specs.Traffic.{PassesFor}
use Rattle.setting_runner.specs.declared.outcome.StopCause.{StopCause}
use Rattle.setting_runner.specs.declared.outcome.StopCause.TheVariants.{Port, SwitchDisagrees, Wire}
use Rattle.setting_runner.specs.declared.setting.Stop.{Stop}
use Rattle.switch_settings.specs.Asking.{HaveReplied, HavePassedFor}
use Rattle.switch_settings.specs.declared.fault.SettingFault.{SettingFault}
use Rattle.switch_settings.specs.declared.fault.SettingFault.TheVariants as fault

-- the switches couldn't be set
pub fault_passes : (f : SettingFault) (modules : ℕ) (standing : Option (List Pair)) (pairs : List Pair) (old new : Option (List Passing))
    → HavePassedFor modules f standing pairs old new → PassesFor modules (cause_of f) standing pairs old new
fault_passes fault.Port modules standing pairs old new has = has
fault_passes (fault.Switch found) modules standing pairs old new has = (found, refl, has)

short_passes : (cause : StopCause) (words modules : ℕ) (ms : List (ℕ × ℕ)) (standing : Option (List Pair)) (pairs : List Pair) (old new : Option (List Passing))
    → IsShortfall words ms cause → HaveReplied modules standing pairs old new → PassesFor modules cause standing pairs old new
short_passes (Wire t) words modules ms standing pairs old new short replied = replied
short_passes Port words modules ms standing pairs old new short replied = absurd short
short_passes (SwitchDisagrees output) words modules ms standing pairs old new short replied = absurd short

-- they were set, and a wire failed
pub ended_passes : {T : Type 0} (result : Result T Stop) (words modules : ℕ) (ms : List (ℕ × ℕ)) (standing : Option (List Pair)) (pairs : List Pair)
    (old new : Option (List Passing)) → IfErr result (λ stop. IsShortfall words ms stop.cause) → HaveReplied modules standing pairs old new
    → IfErr result (λ stop. PassesFor modules stop.cause standing pairs old new)
ended_passes (Ok x) words modules ms standing pairs old new short replied = tt
ended_passes (Err stop) words modules ms standing pairs old new short replied = short_passes stop.cause words modules ms standing pairs old new short replied

-- the same of a setting of a schedule
pub stops_passing : (modules : ℕ) (cause : StopCause) (known standing : Option (List Pair)) (pairs others : List Pair) (old new : Option (List Passing)) → known
    ≡ standing → pairs ≡ others → PassesFor modules cause known pairs old new → PassesFor modules cause standing others old new
stops_passing modules cause known standing pairs others old new e f h = rw (e, f) at h
