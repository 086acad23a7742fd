-- What passes while the settings of a schedule are put on the switches of a rack, and what is told
-- meanwhile. The order is this project's choice: a setting is told where all outputs have replied
-- as it calls for, and not before, and where nothing that could change one was sent since.
use Rattle.std.specs.Prelude.{◌≡◌, ◌<◌, ◌≤◌, ◌+◌, ℕ, zero, suc, List, length, Option, Some, None}
use Rattle.std.specs.Prelude.{Ok, Err}
use Rattle.batch.specs.declared.transfer.Transfer.{Transfer}
use Rattle.crossbar.specs.declared.port.ConfigPort.{Ghosts}
use Rattle.crossbar.specs.declared.traffic.Passing.{Passing}
use Rattle.crossbar.specs.declared.pair.Pair.{Pair}
use Rattle.switch_settings.specs.Answers.{IsSettingFault}
use Rattle.switch_settings.specs.RackWirings.{AreSetIn}
use Rattle.switch_settings.specs.Sending.{pairs_at}
use Rattle.switch_settings.specs.Settings.{numbers_in}
use Rattle.switch_settings.specs.declared.rack_wiring.RackWiring.{RackWiring}
use Rattle.switch_driver.specs.Hearings.{Hearing}
use Rattle.switch_driver.specs.Steps.{HasStopped, Stands}
use Rattle.switch_driver.specs.declared.driving.DriveOutcome.{DriveOutcome}
use Rattle.switch_driver.specs.declared.driving.DriveOutcome.TheVariants.{Completed, Stopped}
use Rattle.switch_driver.specs.declared.driving.DriveOutcome.TheVariants.{Halted}
use Rattle.switch_settings.specs.declared.fault.SettingFault.{SettingFault}
use Rattle.switch_driver.specs.declared.drive_observer.Halt.{Halt}

-- the pairs that stand after so many settings from the first one on: after none no pairs are
-- known to
abbrev pub standing_after : List Transfer → List (List ℕ) → ℕ → ℕ → Option (List Pair)
standing_after batch settings first zero = None
standing_after batch settings first (suc n) = Some (pairs_at batch settings (first + n))

-- after so many settings the next one stood, or stands, on the switches of the rack
abbrev pub Stood : RackWiring → List Transfer → List (List ℕ) → ℕ → ℕ → Option (List Passing)
    → Option (List Passing) → Type 0
Stood rack batch settings first n old new =
    Stands rack (standing_after batch settings first n) (pairs_at batch settings (first + n)) old
    new

-- So many settings stood from the first one on, one after another. Each was told once it stood, and
-- the next one came when it was wanted.
abbrev pub HaveStood : {S : Type 0} → Hearing S → RackWiring
    → List Transfer → List (List ℕ) → ℕ → ℕ → Option (List Passing) → S → Option (List Passing)
    → S → Type 0
HaveStood {S} hears rack batch settings first zero old told new tells =
    (new ≡ old) × (tells ≡ told)
HaveStood {S} hears rack batch settings first (suc n) old told new tells =
    (mid : Option (List Passing)) × (telling : S)
    × HaveStood hears rack batch settings first n old told mid telling
    × Stood rack batch settings first n mid new
    × hears telling (first + n) (numbers_in settings (first + n)) (Ok tt) tells

-- The settings from the first one to before this one stood, so many, and then it stood itself, was
-- told, and this was said of it.
pub record EndsWith {S : Type 0} (hears : Hearing S) (halt : Halt)
    (rack : RackWiring) (batch : List Transfer) (settings : List (List ℕ)) (first k : ℕ)
    (old : Option (List Passing)) (told : S) (new : Option (List Passing)) (tells : S)
    : Type 0 where
  pub count : ℕ
  pub at : first + count ≡ k
  pub within : k < length settings
  pub mid : Option (List Passing)
  pub telling : S
  pub before : HaveStood hears rack batch settings first count old told mid telling
  pub stood : Stood rack batch settings first count mid new
  pub said : hears telling k (numbers_in settings k) (Err halt) tells

-- The settings from the first one to before this one stood, so many. This one couldn't be set, and
-- nothing was told of it.
pub record StopsDriving {S : Type 0} (hears : Hearing S)
    (fault : SettingFault)
    (rack : RackWiring) (batch : List Transfer) (settings : List (List ℕ)) (first k : ℕ)
    (old : Option (List Passing)) (told : S) (new : Option (List Passing)) (tells : S)
    : Type 0 where
  pub count : ℕ
  pub at : first + count ≡ k
  pub within : k < length settings
  pub mid : Option (List Passing)
  pub before : HaveStood hears rack batch settings first count old told mid tells
  pub vain :
      HasStopped rack fault (standing_after batch settings first count)
      (pairs_at batch settings k) mid new

-- what passed and what was told, from the first setting that is driven to this end
abbrev pub IsDriven : {S : Type 0} → Hearing S → RackWiring
    → List Transfer → List (List ℕ) → ℕ → DriveOutcome → Option (List Passing) → S
    → Option (List Passing) → S → Type 0
IsDriven {S} hears rack batch settings first (Completed all) old told new tells =
    (all ≡ length settings)
    × ((count : ℕ) × (first + count ≡ all)
    × HaveStood hears rack batch settings first count old told new tells)
IsDriven {S} hears rack batch settings first (Stopped k fault) old told new tells =
    StopsDriving hears fault rack batch settings first k old told new tells
IsDriven {S} hears rack batch settings first (Halted k halt) old told new tells =
    EndsWith hears halt rack batch settings first k old told new tells

-- ---- why it ended so

-- the switches of an honest port are those of a setting
abbrev pub AreOfSetting : {P : Type 0} → Ghosts P → RackWiring → List Transfer → List (List ℕ)
    → ℕ → P → P → Type 0
AreOfSetting {P} seen rack batch settings k old new =
    AreSetIn rack (seen.honest old) (seen.switches new) (pairs_at batch settings k)

-- The port failed just where that is the cause, and an honest port has the switches of the setting
-- that stood last.
abbrev pub HasDriveCause : {P : Type 0} → Ghosts P → RackWiring → List Transfer → List (List ℕ)
    → ℕ → DriveOutcome → P → P → Type 0
HasDriveCause {P} seen rack batch settings first (Completed all) old new =
    (seen.failures new ≡ seen.failures old)
    × ((k : ℕ) → first ≤ k → k + 1 ≡ all → AreOfSetting seen rack batch settings k old new)
HasDriveCause {P} seen rack batch settings first (Stopped k fault) old new =
    IsSettingFault (seen.failures old) (seen.failures new) (seen.honest old) fault
HasDriveCause {P} seen rack batch settings first (Halted k halt) old new =
    (seen.failures new ≡ seen.failures old) × AreOfSetting seen rack batch settings k old new
