-- What `switch` answers: what the switches of a rack are sent for a schedule, setting by setting.
-- The texts are this project's choice.
use Rattle.std.specs.Prelude.{◌≡◌, ◌||◌, ℕ, ◌++◌, Bool, List, [], Option, Some, None, if◌then◌else◌}
use Rattle.std.specs.Prelude.{codes, length}
use Rattle.std.specs.Fmt.{decimal}
use Rattle.std.specs.List.{flat_map, range_with_len}
use Rattle.batch.specs.ShapeView.{widest}
use Rattle.batch.specs.declared.transfer.Transfer.{Transfer}
use Rattle.c004_commands.specs.Commands.{text}
use Rattle.c004_commands.specs.declared.command.Command.{Command}
use Rattle.board_wiring.specs.Boards.{IsFilled, modules_of}
use Rattle.board_wiring.specs.Faults.{IsFirstBad}
use Rattle.board_wiring.specs.Missing.{HasWaysOn, IsMissingFor, MissesNothing}
use Rattle.board_wiring.specs.Sources.{of_wiring}
use Rattle.board_wiring.specs.Text.{Denotes as IsWiringText}
use Rattle.board_wiring.specs.declared.board.Board.{Board}
use Rattle.board_wiring.specs.declared.fault.WiringFault.{WiringFault}
use Rattle.crossbar.specs.declared.board.BoardWiring.{BoardWiring}
use Rattle.crossbar.specs.declared.chip.Wiring.{Wiring}
use Rattle.crossbar.specs.declared.chip.Wiring.TheVariants.{Both, Forth, Back, Board as OnBoard}
use Rattle.refusals.specs.declared.refusal.Refusal.{Refusal}
use Rattle.refusals.specs.Refusals.{refusal_words}
use Rattle.switch_settings.specs.Racks.{is_wide}
use Rattle.switch_settings.specs.Sending.{sent_for}
use Rattle.line_words.specs.HexWords.{hex2}
use Rattle.plan_answers.specs.declared.limits.TheConstants.{DONE}
use Rattle.plan_answers.specs.Refusals.{Printed, IsRefused}
use Rattle.plan_answers.specs.Schedules.{IsScheduleFrom, IsWrongFrom}
use Rattle.plan_answers.specs.declared.source.ScheduleSource.{ScheduleSource}

-- bytes of two hexadecimal digits each, with a space before each
abbrev pub bytes_text : List ℕ → List ℕ
bytes_text bytes = flat_map (λ byte. codes " " ++ hex2 byte) bytes

-- `setting S`
abbrev pub setting_head : ℕ → List ℕ
setting_head setting = codes "setting " ++ decimal setting

-- that, after it the name of a switch where the rack has two, and the bytes of the commands that
-- this switch is sent
abbrev pub switch_line : ℕ → List ℕ → List Command → List ℕ
switch_line setting name commands =
    setting_head setting ++ name ++ bytes_text (text commands) ++ codes "\n"

-- the line of a setting where the rack has one switch, else the lines of both: each switch is sent
-- what goes with its wiring
abbrev pub lines_for : Bool → ℕ → (Wiring → List Command) → List ℕ
lines_for wide setting sent =
    if wide
    then
    switch_line setting (codes " a") (sent Forth)
    ++ switch_line setting (codes " b") (sent Back)
    else switch_line setting [] (sent Both)

-- the same where the rack may be a board of its own wiring, with one switch
abbrev pub lines_on : Option BoardWiring → Bool → ℕ → (Wiring → List Command) → List ℕ
lines_on None wide setting sent = lines_for wide setting sent
lines_on (Some board) wide setting sent = switch_line setting [] (sent (OnBoard board))

-- ---- any schedule

-- the lines of a setting: what turns the switches to its pairs
abbrev pub turning_lines : Option BoardWiring → (wide : Bool) → List Transfer → List (List ℕ) → ℕ
    → List ℕ
turning_lines board wide batch settings k =
    lines_on board wide k (λ wiring. sent_for wiring batch settings k)

-- the lines of all settings, in their order
abbrev pub settings_bytes_text : Option BoardWiring → (wide : Bool) → List Transfer
    → List (List ℕ) → List ℕ
settings_bytes_text board wide batch settings =
    flat_map (turning_lines board wide batch settings) (range_with_len 0 (length settings))

-- those lines, under their status
abbrev pub TellsSwitch : Option BoardWiring → (wide : Bool) → List Transfer → List (List ℕ)
    → Printed → Type 0
TellsSwitch board wide batch settings printed =
    (printed.text ≡ settings_bytes_text board wide batch settings) × (printed.status ≡ DONE)

-- The lines of a schedule from this source, or a refusal, each under its status. Of a board all
-- links that the batch needs are there, and the lines are those of its wiring, whatever free links
-- stand in it for what is left out. Another rack has two switches if that is said, or if the batch
-- needs them. What isn't there is refused after faults of the batch's text, and before those of a
-- schedule.
pub data IsSwitched (source : ScheduleSource (List ℕ)) (has_two : Bool) (board : Option Board)
    (batch : List ℕ) (printed : Printed) : Type 0 where
  switched : (wiring : Option BoardWiring) (transfers : List Transfer) (settings : List (List ℕ))
      → IsScheduleFrom source widest batch transfers settings
      → HasWaysOn board transfers → IsFilled board wiring
      → TellsSwitch wiring (has_two || is_wide transfers) transfers settings printed
      → IsSwitched source has_two board batch printed
  lacking : (refusal : Refusal) → IsMissingFor board batch refusal
      → IsRefused (refusal_words refusal) printed → IsSwitched source has_two board batch printed
  wrong : (refusal : Refusal) → IsWrongFrom source widest batch refusal → MissesNothing board batch
      → IsRefused (refusal_words refusal) printed → IsSwitched source has_two board batch printed

-- ---- the text of a wiring

-- it is looked at first: what is so of the wiring that it denotes, or the refusal of its first line
-- at fault
pub data IsOnBoard (Is : Board → Printed → Type 0) (wiring : List ℕ) (printed : Printed)
    : Type 0 where
  wired : (board : Board) → IsWiringText wiring (modules_of board) → Is board printed
      → IsOnBoard Is wiring printed
  miswired : (fault : WiringFault) → IsFirstBad wiring fault
      → IsRefused (refusal_words (of_wiring fault)) printed → IsOnBoard Is wiring printed

-- what is so of the usual wiring, where there is no text of another
abbrev pub IsOn : (Option Board → Printed → Type 0) → Option (List ℕ) → Printed → Type 0
IsOn Is None printed = Is None printed
IsOn Is (Some wiring) printed = IsOnBoard (λ board. Is (Some board)) wiring printed
