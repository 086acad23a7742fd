-- What `draw` answers.
use Rattle.std.specs.Prelude.{◌≡◌, ℕ, ◌<◌, ◌≤◌, ◌+◌, max, List, ◌++◌, length, Option, Some, None}
use Rattle.std.specs.Prelude.{codes, ⊤}
use Rattle.std.specs.Fmt.{decimal}
use Rattle.batch.specs.declared.transfer.Transfer.{Transfer}
use Rattle.batch.specs.ShapeView.{ShapeView}
use Rattle.batch.specs.Text.{IsNumber}
use Rattle.refusals.specs.declared.refusal.Refusal.{Refusal}
use Rattle.refusals.specs.declared.refusal.Refusal.TheVariants.{Settings, NoSetting}
use Rattle.refusals.specs.Refusals.{refusal_words}
use Rattle.schedule_picture.specs.declared.shown.ShownSettings.{ShownSettings}
use Rattle.schedule_picture.specs.declared.verdict.Verdict.{Verdict}
use Rattle.schedule_picture.specs.Picture.{picture_of, all_shown}
use Rattle.plan_answers.specs.declared.limits.TheConstants.{DONE}
use Rattle.plan_answers.specs.declared.setting_range.SettingRange.{SettingRange}
use Rattle.plan_answers.specs.Refusals.{Printed, IsRefused}
use Rattle.plan_answers.specs.Validities.{IsScheduleRead, IsValid, IsInvalid}

-- ---- which settings are drawn

-- `A..B`
abbrev pub range_text : SettingRange → List ℕ
range_text range = decimal range.first ++ codes ".." ++ decimal range.last

-- its last setting isn't before its first
abbrev pub IsInOrder : SettingRange → Type 0
IsInOrder range = range.first ≤ range.last

-- the text of the settings from one to another, which isn't before it
pub record DenotesRange (text : List ℕ) (range : SettingRange) : Type 0 where
  pub spelled : text ≡ range_text range
  pub first : IsNumber range.first
  pub last : IsNumber range.last
  pub some : IsInOrder range

-- whatever denotes no range is a bad one
abbrev pub IsBadRange : List ℕ → Type 0
IsBadRange text = (range : SettingRange) → DenotesRange text range → ⊥

-- a text denotes the range, or there is neither
abbrev pub AreWanted : Option (List ℕ) → Option SettingRange → Type 0
AreWanted None None = ⊤
AreWanted (Some text) (Some range) = DenotesRange text range
AreWanted None (Some range) = ⊥
AreWanted (Some text) None = ⊥

-- a text is given that denotes no range
abbrev pub IsBadSettingsText : Option (List ℕ) → Type 0
IsBadSettingsText None = ⊥
IsBadSettingsText (Some text) = IsBadRange text

-- of so many settings these are shown: all, or those of the range, which are all there
abbrev pub AreShown : Option SettingRange → ℕ → ShownSettings → Type 0
AreShown None settings shown = shown ≡ all_shown settings
AreShown (Some range) settings shown =
    (range.last < settings) × (shown.first ≡ range.first)
    × (shown.first + shown.count ≡ range.last + 1)

-- k is the first of the range that so many settings haven't
abbrev pub IsOutside : Option SettingRange → ℕ → ℕ → Type 0
IsOutside None settings k = ⊥
IsOutside (Some range) settings k =
    (settings ≤ range.last) × (k ≡ max range.first settings)

-- ---- the answer

-- the picture of the settings that are wanted of the schedule that the texts say
pub record IsDrawing (shape : ShapeView) (batch schedule : List ℕ) (settings_text : Option (List ℕ))
    (text : List ℕ) : Type 0 where
  pub transfers : List Transfer
  pub settings : List (List ℕ)
  pub verdict : Verdict
  pub range : Option SettingRange
  pub shown : ShownSettings
  pub wanted : AreWanted settings_text range
  pub valid : IsValid shape batch schedule transfers settings verdict
  pub are_shown : AreShown range (length settings) shown
  pub drawing : text ≡ picture_of transfers settings verdict shown

-- What is first wrong: the text of the range is looked at first, then the texts of the batch and of
-- the schedule, then whether that has all settings of the range.
pub data IsFirstUndrawn (shape : ShapeView) (batch schedule : List ℕ)
    (settings_text : Option (List ℕ))
    (refusal : Refusal) : Type 0 where
  no_range : IsBadSettingsText settings_text → refusal ≡ Settings
      → IsFirstUndrawn shape batch schedule settings_text refusal
  invalid : (range : Option SettingRange) → AreWanted settings_text range
      → IsInvalid shape batch schedule refusal
      → IsFirstUndrawn shape batch schedule settings_text refusal
  no_setting : (range : Option SettingRange) (transfers : List Transfer)
      (settings : List (List ℕ)) (k : ℕ) → AreWanted settings_text range
      → IsScheduleRead shape batch schedule transfers settings
      → IsOutside range (length settings) k → refusal ≡ NoSetting k
      → IsFirstUndrawn shape batch schedule settings_text refusal

-- the picture, where so many changes are shown, or the refusal of what is first wrong, each under
-- its status
pub data IsDrawnWith (shape : ShapeView) (batch schedule : List ℕ) (settings_text : Option (List ℕ))
    (least : ℕ) (printed : Printed) : Type 0 where
  drawn : (drawing : IsDrawing shape batch schedule settings_text printed.text)
      → drawing.verdict.least ≡ least → printed.status ≡ DONE
      → IsDrawnWith shape batch schedule settings_text least printed
  undrawn : (refusal : Refusal) → IsFirstUndrawn shape batch schedule settings_text refusal
      → IsRefused (refusal_words refusal) printed
      → IsDrawnWith shape batch schedule settings_text least printed

-- so it is, however many changes are shown
abbrev pub IsDrawn : ShapeView → List ℕ → List ℕ → Option (List ℕ) → Printed → Type 0
IsDrawn shape batch schedule settings_text printed =
    (least : ℕ) × IsDrawnWith shape batch schedule settings_text least printed
