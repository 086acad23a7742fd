-- A rack whose modules are wired as usual, or a board whose modules are wired to its one switch in
-- their own way. The usual wiring is this project's choice.
use Rattle.std.specs.Prelude.{◌≡◌, ℕ, Bool, List, length, Option, IsTrue, IfSome}
use Rattle.crossbar.specs.Chips.{Switches}
use Rattle.crossbar.specs.Pairs.{ArePairs, switch_of}
use Rattle.crossbar.specs.Wired.{links_of}
use Rattle.crossbar.specs.declared.chip.Wiring.TheVariants.{Board}
use Rattle.crossbar.specs.declared.pair.Pair.{Pair}
use Rattle.switch_settings.specs.Answers.{AreSetTo}
use Rattle.switch_settings.specs.declared.rack_wiring.RackWiring.{RackWiring}
use Rattle.switch_settings.specs.declared.rack_wiring.RackWiring.TheVariants.{Usual, Own}

-- how many modules are wired
abbrev pub wired_in : RackWiring → ℕ
wired_in (Usual modules) = modules
wired_in (Own board) = length (links_of board)

-- at an honest port the switches of the rack are those of the pairs
abbrev pub AreSetIn : RackWiring → Bool → Switches → List Pair → Type 0
AreSetIn (Usual modules) honest switches pairs = AreSetTo modules honest switches pairs
AreSetIn (Own board) honest switches pairs =
    IsTrue honest → switches.a ≡ switch_of (Board board) pairs

-- the pairs that stand on the switches of the rack, where they are known
abbrev pub AreStandingIn : RackWiring → Bool → Switches → Option (List Pair) → Type 0
AreStandingIn rack honest switches known =
    IfSome known (λ pairs. ArePairs (wired_in rack) pairs × AreSetIn rack honest switches pairs)
