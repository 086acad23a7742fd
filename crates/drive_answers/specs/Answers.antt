-- What `drive` answers: how the settings of a schedule were put on the switches of a rack, over
-- ports of these names, which were opened for them.
use Rattle.std.specs.Prelude.{◌≡◌, ◌<◌, ◌⊎◌, ◌==◌, ◌||◌, ℕ, Bool, List, [], length, Option, Some}
use Rattle.std.specs.Prelude.{None, if◌then◌else◌, nat_lt}
use Rattle.batch.specs.ShapeView.{widest}
use Rattle.batch.specs.declared.transfer.Transfer.{Transfer}
use Rattle.board_wiring.specs.Boards.{IsBoardOf, IsFilled, IsMiswired}
use Rattle.board_wiring.specs.Missing.{HasWaysOn, IsMissingFor, MissesNothing}
use Rattle.board_wiring.specs.Sources.{of_wiring}
use Rattle.board_wiring.specs.declared.board.Board.{Board}
use Rattle.board_wiring.specs.declared.fault.WiringFault.{WiringFault}
use Rattle.crossbar.specs.declared.board.BoardWiring.{BoardWiring}
use Rattle.crossbar.specs.declared.switch.TheConstants.{JOINED_MODULES}
use Rattle.crossbar.specs.declared.traffic.Passing.{Passing}
use Rattle.plan_answers.specs.Refusals.{Printed, Refuses}
use Rattle.plan_answers.specs.Schedules.{IsScheduleFrom, IsWrongFrom}
use Rattle.plan_answers.specs.declared.source.ScheduleSource.{ScheduleSource}
use Rattle.refusals.specs.declared.refusal.Refusal.{Refusal}
use Rattle.refusals.specs.declared.refusal.Refusal.TheVariants.{NoSetting}
use Rattle.switch_driver.specs.Driving.{IsDriven}
use Rattle.switch_driver.specs.Hearings.{Hearing}
use Rattle.switch_driver.specs.declared.driving.DriveOutcome.{DriveOutcome}
use Rattle.switch_driver.specs.declared.driving.DriveOutcome.TheVariants.{Stopped, Halted}
use Rattle.switch_driver.specs.declared.drive_observer.Halt.TheVariants as halt
use Rattle.switch_settings.specs.declared.fault.SettingFault.TheVariants.{Port}
use Rattle.switch_settings.specs.Racks.{is_wide, joined_by}
use Rattle.switch_settings.specs.declared.rack_wiring.RackWiring.{RackWiring}
use Rattle.switch_settings.specs.declared.rack_wiring.RackWiring.TheVariants.{Usual, Own}
use Rattle.drive_answers.specs.Endings.{IsEnding}
use Rattle.drive_answers.specs.declared.fault.DriveFault.{DriveFault}
use Rattle.drive_answers.specs.declared.fault.DriveFault.TheVariants.{Untold, NoMemory}
use Rattle.drive_answers.specs.Ways.{IsUnopened, Names, Ways, how_many, used}

-- ---- what was done with it

-- a schedule may be driven from this setting on: it has it, or it is the first one anyway
abbrev pub IsStart : ℕ → List (List ℕ) → Type 0
IsStart first settings = (first ≡ 0) ⊎ (first < length settings)

-- a rack that is driven over ports of these names has two switches, if it is wired as usual: there
-- are two ports, or the batch needs two
abbrev pub is_wide_over : Names → List Transfer → Bool
is_wide_over names batch = how_many names == 2 || is_wide batch

-- the rack that a batch is driven on: a board of this wiring, where there is one, and else the
-- modules that two switches join, or one
abbrev pub rack_for : Option BoardWiring → (wide : Bool) → RackWiring
rack_for None wide = Usual (joined_by wide)
rack_for (Some wiring) wide = Own wiring

-- how many switches a rack has
abbrev pub switches_in : RackWiring → ℕ
switches_in (Usual modules) = if nat_lt JOINED_MODULES modules then 2 else 1
switches_in (Own board) = 1

-- a setting stopped at its port where that failed, and there alone
abbrev pub HasPortFailed : DriveOutcome → ℕ → Type 0
HasPortFailed (Stopped k Port) failed = 0 < failed
HasPortFailed how failed = failed ≡ 0

-- The settings from this one on were driven so over the ports of these names: they were opened,
-- once; nothing had passed over them before, and this had passed as they were given back.
pub record IsDrivenOver {S : Type 0} (hears : Hearing S)
    (rack : RackWiring) (batch : List Transfer) (settings : List (List ℕ)) (first : ℕ)
    (how : DriveOutcome)
    (names : Names) (was opens : Ways) (told tells : S) : Type 0 where
  pub carried : Option (List Passing)
  pub failed : ℕ
  pub ways : opens ≡ used names carried failed was
  pub went : IsDriven hears rack batch settings first how (Some []) told carried tells
  pub cause : HasPortFailed how failed

-- The ports lead to as many switches as the rack has; the settings were driven, and it was said how
-- that ended. Or the ports were refused, none was handed over, and nothing was told.
pub data IsTried {S : Type 0} (hears : Hearing S) (rack : RackWiring)
    (batch : List Transfer) (settings : List (List ℕ)) (first : ℕ) (names : Names)
    (was opens : Ways) (told tells : S) (printed : Printed) : Type 0 where
  driven : (how : DriveOutcome) → how_many names ≡ switches_in rack
      → IsDrivenOver hears rack batch settings first how names was opens told tells
      → IsEnding how printed → IsTried hears rack batch settings first names was opens told tells
      printed
  unopened : (refusal : Refusal) → IsUnopened names (switches_in rack) refusal
      → Refuses refusal printed → tells ≡ told → opens ≡ was
      → IsTried hears rack batch settings first names was opens told tells printed

-- a setting stood that couldn't be told; or there was no memory, no port was opened, and nothing
-- was told
abbrev pub HasFailedOver : {S : Type 0} → Hearing S → RackWiring
    → List Transfer → List (List ℕ) → ℕ → Names → Ways → Ways → S → S → DriveFault → Type 0
HasFailedOver {S} hears rack batch settings first names was opens told tells Untold =
    (k : ℕ) × (how_many names ≡ switches_in rack)
    × IsDrivenOver hears rack batch settings first (Halted k halt.Untold) names was opens told tells
HasFailedOver {S} hears rack batch settings first names was opens told tells NoMemory =
    (tells ≡ told) × (opens ≡ was)

-- ---- the answer

-- What is first wrong with the texts: that of the wiring is looked at first, and then the others.
-- What the batch needs and the board hasn't is refused after faults of the batch's text, and before
-- those of a schedule. Then the schedule has to have the setting from which on it is driven.
pub data IsFirstDriveWrong (source : ScheduleSource (List ℕ)) (text : List ℕ)
    (wiring : Option (List ℕ))
    (first : ℕ) (refusal : Refusal) : Type 0 where
  wiring_wrong : (fault : WiringFault) → IsMiswired wiring fault → refusal ≡ of_wiring fault
      → IsFirstDriveWrong source text wiring first refusal
  lacking : (board : Option Board) → IsBoardOf wiring board → IsMissingFor board text refusal
      → IsFirstDriveWrong source text wiring first refusal
  texts_wrong : (board : Option Board) → IsBoardOf wiring board
      → IsWrongFrom source widest text refusal → MissesNothing board text
      → IsFirstDriveWrong source text wiring first refusal
  no_setting : (board : Option Board) (batch : List Transfer) (settings : List (List ℕ))
      → IsBoardOf wiring board → IsScheduleFrom source widest text batch settings
      → HasWaysOn board batch
      → (IsStart first settings → ⊥) → refusal ≡ NoSetting first
      → IsFirstDriveWrong source text wiring first refusal

-- What was done with a schedule from this source, of the batch that the text denotes, from this
-- setting on, on the rack that is wired so, over the ports of these names. All links that the batch
-- needs are there, whatever free links stand in the rack's wiring for what a board leaves out. Or
-- the refusal of what is first wrong with the texts: then no port was opened, and nothing was told.
pub data IsDriveAnswer {S : Type 0} (hears : Hearing S)
    (source : ScheduleSource (List ℕ)) (text : List ℕ) (wiring : Option (List ℕ)) (first : ℕ)
    (names : Names) (was opens : Ways) (told tells : S) (printed : Printed) : Type 0 where
  tried : (board : Option Board) (filled : Option BoardWiring) (batch : List Transfer)
      (settings : List (List ℕ))
      → IsBoardOf wiring board → IsScheduleFrom source widest text batch settings
      → HasWaysOn board batch → IsFilled board filled → IsStart first settings
      → IsTried hears (rack_for filled (is_wide_over names batch)) batch settings first names was
      opens told tells printed
      → IsDriveAnswer hears source text wiring first names was opens told tells printed
  wrong : (refusal : Refusal) → IsFirstDriveWrong source text wiring first refusal
      → Refuses refusal printed → tells ≡ told → opens ≡ was
      → IsDriveAnswer hears source text wiring first names was opens told tells printed

-- why there is none: of such a schedule, on that rack
abbrev pub HasFailed : {S : Type 0} → Hearing S → ScheduleSource (List ℕ)
    → List ℕ → Option (List ℕ) → ℕ → Names → Ways → Ways → S → S → DriveFault → Type 0
HasFailed {S} hears source text wiring first names was opens told tells Untold =
    (board : Option Board) × (filled : Option BoardWiring) × (batch : List Transfer)
    × (settings : List (List ℕ))
    × IsBoardOf wiring board × IsScheduleFrom source widest text batch settings
    × HasWaysOn board batch × IsFilled board filled
    × HasFailedOver hears (rack_for filled (is_wide_over names batch)) batch settings first names
    was opens told tells Untold
HasFailed {S} hears source text wiring first names was opens told tells NoMemory =
    (tells ≡ told) × (opens ≡ was)
