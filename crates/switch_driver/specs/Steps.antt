-- What passes over the configuration links where a setting is put on the switches of a rack by
-- `drive`. That the end of the sequence is sent once more after the replies is this project's
-- choice.
use Rattle.std.specs.Prelude.{◌≡◌, ◌++◌, ◌∷◌, [], List, nat_lt, Option, Some}
use Rattle.crossbar.specs.declared.chip.Chip.{Chip}
use Rattle.crossbar.specs.declared.chip.Chip.TheVariants.{A}
use Rattle.crossbar.specs.declared.chip.Wiring.{Wiring}
use Rattle.crossbar.specs.declared.chip.Wiring.TheVariants.{Board}
use Rattle.crossbar.specs.declared.pair.Pair.{Pair}
use Rattle.crossbar.specs.declared.switch.TheConstants.{JOINED_MODULES}
use Rattle.crossbar.specs.declared.traffic.Passing.{Passing}
use Rattle.switch_settings.specs.Asking.{AreDone, BreakOff, Step, asked_steps, each, settle}
use Rattle.switch_settings.specs.Asking.{wirings}
use Rattle.switch_settings.specs.declared.fault.SettingFault.{SettingFault}
use Rattle.switch_settings.specs.declared.rack_wiring.RackWiring.{RackWiring}
use Rattle.switch_settings.specs.declared.rack_wiring.RackWiring.TheVariants.{Usual, Own}

-- the switches of a rack, and what is wired to them
abbrev pub wirings_of : RackWiring → List (Chip × Wiring)
wirings_of (Usual modules) = wirings (nat_lt JOINED_MODULES modules)
wirings_of (Own board) = (A, Board board) ∷ []

-- each is turned, then each is asked, and then each is sent the end of the sequence
abbrev pub settled_steps : List (Chip × Wiring) → List Step
settled_steps switches = asked_steps switches ++ each settle switches

-- The switches of a rack stand so. Where the pairs stood already, nothing passed; else all was done
-- that sets, asks and settles the switches.
pub data Stands (rack : RackWiring) (standing : Option (List Pair)) (pairs : List Pair)
    (old new : Option (List Passing)) : Type 0 where
  kept : standing ≡ Some pairs → new ≡ old → Stands rack standing pairs old new
  changed : (standing ≡ Some pairs → ⊥)
      → AreDone standing pairs (settled_steps (wirings_of rack)) old new
      → Stands rack standing pairs old new

-- other pairs stood, or none were known to, and they couldn't be set for this cause
abbrev pub HasStopped : RackWiring → SettingFault → Option (List Pair) → List Pair
    → Option (List Passing) → Option (List Passing) → Type 0
HasStopped rack fault standing pairs old new =
    (standing ≡ Some pairs → ⊥)
    × BreakOff fault standing pairs (settled_steps (wirings_of rack)) old new
