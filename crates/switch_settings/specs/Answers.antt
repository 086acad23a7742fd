-- What the outputs answer, and why the switches of a rack can't be set. Source of the answers:
-- INMOS IMS C004 data sheet.
use Rattle.std.specs.Prelude.{◌≡◌, ◌<◌, ◌+◌, ◌*◌, ◌⊎◌, ℕ, Bool, false, slice_index, IsTrue, IfSome}
use Rattle.std.specs.Prelude.{List, Option, Some, None}
use Rattle.std.specs.FinMap as map
use Rattle.c004_commands.specs.Answers.{answer_byte, IsAnswer}
use Rattle.c004_commands.specs.declared.answer.OutputState.TheVariants.{Loose}
use Rattle.c004_commands.specs.declared.port.TheConstants.{PORTS}
use Rattle.crossbar.specs.Switch.{Switch}
use Rattle.crossbar.specs.Chips.{Switches, switch_at}
use Rattle.crossbar.specs.Pairs.{ArePairs, AreSwitchesOf, room_of, switch_of}
use Rattle.crossbar.specs.declared.chip.Chip.{Chip}
use Rattle.crossbar.specs.declared.chip.Chip.TheVariants.{A, B}
use Rattle.crossbar.specs.declared.chip.Wiring.{Wiring}
use Rattle.crossbar.specs.declared.chip.Wiring.TheVariants.{Forth, Back}
use Rattle.crossbar.specs.declared.switch.TheConstants.{JOINED_MODULES}
use Rattle.crossbar.specs.declared.pair.Pair.{Pair}
use Rattle.switch_settings.specs.Pairs.{Turns}
use Rattle.switch_settings.specs.declared.fault.Disagreement.{Disagreement}
use Rattle.switch_settings.specs.declared.fault.SettingFault.{SettingFault}
use Rattle.switch_settings.specs.declared.fault.SettingFault.TheVariants.{Port, Switch as Disagreed}

-- The reply says that the output has this input, or none. Of a reply whose top bit is 0 nothing
-- else is read.
abbrev pub Reports : Option ℕ → ℕ → Type 0
Reports (Some input) reply = reply ≡ answer_byte (Some input)
Reports None reply = IsAnswer Loose reply

-- the reply is what the switch answers of the output
abbrev pub Agrees : Switch → ℕ → ℕ → Type 0
Agrees switch output reply = Reports (map.get switch.sources output) reply

-- at an honest port the switches of a rack of so many modules are those of the pairs
abbrev pub AreSetTo : ℕ → Bool → Switches → List Pair → Type 0
AreSetTo modules honest switches pairs = IsTrue honest → AreSwitchesOf modules pairs switches

-- the pairs that stand on the switches, where they are known
abbrev pub AreStanding : ℕ → Bool → Switches → Option (List Pair) → Type 0
AreStanding modules honest switches known =
    IfSome known (λ pairs. ArePairs modules pairs × AreSetTo modules honest switches pairs)

-- at an honest port one switch is that of the pairs that stand, where they are known
abbrev pub IsStandingAt : Chip → Wiring → Bool → Switches → Option (List Pair) → Type 0
IsStandingAt chip wiring honest switches known =
    IfSome known
    (λ pairs. ArePairs (room_of wiring) pairs
    × (IsTrue honest → switch_at chip switches ≡ switch_of wiring pairs))

-- the bytes turn the switch of the pairs that stand into that of the new ones, or any switch where
-- none are known
abbrev pub TurnFrom : Wiring → Option (List Pair) → List ℕ → List Pair → Type 0
TurnFrom wiring known bytes pairs =
    (switch : Switch) → IfSome known (λ old. switch ≡ switch_of wiring old)
    → Turns bytes switch (switch_of wiring pairs)

-- all outputs answer what the pairs call for
abbrev pub AllAgree : Switch → List ℕ → Type 0
AllAgree switch replies =
    (output : ℕ) → output < PORTS → Agrees switch output (slice_index replies output)

-- this output doesn't answer what the pairs call for, and all before it do
pub record IsFirstDisagreement (switch : Switch) (replies : List ℕ) (output : ℕ) : Type 0 where
  pub known : output < PORTS
  pub differs : Agrees switch output (slice_index replies output) → ⊥
  pub agree : (before : ℕ) → before < output → Agrees switch before (slice_index replies before)

-- the number that a fault gives to the first output of a switch: those of the second stand after
-- those of the first
abbrev pub first_output : Chip → ℕ
first_output A = 0
first_output B = PORTS

-- the number of an output in a rack
abbrev pub number_of : Disagreement → ℕ
number_of found = first_output found.chip + found.output

-- what is seen of an output of a switch that is wanted, where this came
abbrev pub seen : Chip → Switch → ℕ → ℕ → Disagreement
seen chip switch output came =
    record { chip = chip; output = output; wanted = map.get switch.sources output; came = came }

-- an output of a chip is the first that doesn't answer what the pairs call for, and this is seen of
-- it
abbrev pub Disagrees : Disagreement → Chip → Switch → List ℕ → Type 0
Disagrees found chip switch replies =
    (found ≡ seen chip switch found.output (slice_index replies found.output))
    × IsFirstDisagreement switch replies found.output

-- why a switch isn't taken for that of the pairs
abbrev pub Misses : Chip → Switch → List ℕ → SettingFault → Type 0
Misses chip switch replies Port = ⊥
Misses chip switch replies (Disagreed found) = Disagrees found chip switch replies

-- an output of a switch that a rack of so many modules has, has this number
abbrev pub HasOutput : ℕ → ℕ → Type 0
HasOutput modules number = (number < PORTS) ⊎ ((JOINED_MODULES < modules) × (number < 2 * PORTS))

-- why switches can't be set: a failure that was counted, or a port that isn't honest and hasn't
-- failed
abbrev pub IsSettingFault : ℕ → ℕ → Bool → SettingFault → Type 0
IsSettingFault before after honest Port = before < after
IsSettingFault before after honest (Disagreed found) = (honest ≡ false) × (after ≡ before)

-- ---- both switches of a wider rack

-- at an honest port both are those of the pairs
abbrev pub AreBothSet : Bool → Switches → List Pair → Type 0
AreBothSet honest switches pairs =
    IsTrue honest → (switches.a ≡ switch_of Forth pairs) × (switches.b ≡ switch_of Back pairs)

-- the pairs that stand on both, where they are known
abbrev pub AreBothStanding : Bool → Switches → Option (List Pair) → Type 0
AreBothStanding honest switches known =
    IfSome known (λ pairs. ArePairs PORTS pairs × AreBothSet honest switches pairs)
