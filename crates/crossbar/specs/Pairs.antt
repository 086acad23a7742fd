-- Pairs of modules, the commands that join them on a switch, and the switch that has just them
-- joined. A switch connects those ends of a pair's links that are wired to it. Which commands a
-- setting and a change are is this project's choice.
use Rattle.std.specs.Prelude.{◌≡◌, ◌≢◌, ◌<◌, ◌≤◌, ◌==◌, ◌&&◌, ℕ, Bool, true, not, List, [], ◌∷◌}
use Rattle.std.specs.Prelude.{◌++◌, map, filter, length}
use Rattle.std.specs.List.{flat_map, list_any, AllByRecursion}
use Rattle.std.specs.FinMap as finmap
use Rattle.c004_commands.specs.declared.command.Command.{Command}
use Rattle.c004_commands.specs.declared.command.Command.TheVariants.{Connect, Join, Settle, Reset}
use Rattle.c004_commands.specs.declared.command.Command.TheVariants.{Cut, CutPair}
use Rattle.c004_commands.specs.declared.port.TheConstants.{PORTS}
use Rattle.crossbar.specs.Switch.{Switch}
use Rattle.crossbar.specs.Chips.{Switches}
use Rattle.crossbar.specs.Modules.{link0, link3}
use Rattle.crossbar.specs.Wired.{links_of, link0_on, link3_on}
use Rattle.crossbar.specs.declared.chip.Wiring.{Wiring}
use Rattle.crossbar.specs.declared.chip.Wiring.TheVariants.{Both, Forth, Back, Board}
use Rattle.crossbar.specs.declared.pair.Pair.{Pair}
use Rattle.crossbar.specs.declared.switch.TheConstants.{JOINED_MODULES}

-- of how many modules the ends can be wired to a switch
abbrev pub room_of : Wiring → ℕ
room_of Both = JOINED_MODULES
room_of Forth = PORTS
room_of Back = PORTS
room_of (Board board) = length (links_of board)

-- the ends of both modules of a pair can be wired to a switch
abbrev pub Fits : Wiring → Pair → Type 0
Fits wiring pair = (pair.initiator < room_of wiring) × (pair.responder < room_of wiring)

-- pairs among so many modules that can be joined at once, in the order of a setting: initiators
-- ascend, and responders differ
abbrev pub ArePairs : ℕ → List Pair → Type 0
ArePairs modules [] = Unit {0}
ArePairs modules (pair ∷ pairs) =
    (pair.initiator < modules) × (pair.responder < modules)
    × AllByRecursion (λ other. pair.initiator < other.initiator) pairs
    × AllByRecursion (λ other. pair.responder ≢ other.responder) pairs
    × ArePairs modules pairs

-- the outputs that a pair connects, with their inputs
abbrev pub ends : Wiring → Pair → List (ℕ × ℕ)
ends Both pair =
    (link0 pair.initiator, link3 pair.responder) ∷ (link3 pair.responder, link0 pair.initiator) ∷ []
ends Forth pair = (pair.responder, pair.initiator) ∷ []
ends Back pair = (pair.initiator, pair.responder) ∷ []
ends (Board board) pair =
    (link0_on board pair.initiator, link3_on board pair.responder)
    ∷ (link3_on board pair.responder, link0_on board pair.initiator) ∷ []

-- the switch of pairs: ready, and just their ends are connected
abbrev pub switch_of : Wiring → List Pair → Switch
switch_of wiring pairs =
    record { sources = finmap.from_entries (flat_map (ends wiring) pairs); ready = true }

-- The switches of pairs in a rack of so many modules. What the second does where the first is
-- enough for all isn't said.
pub record AreSwitchesOf (modules : ℕ) (pairs : List Pair) (switches : Switches) : Type 0 where
  pub narrow : modules ≤ JOINED_MODULES → switches.a ≡ switch_of Both pairs
  pub wide_a : JOINED_MODULES < modules → switches.a ≡ switch_of Forth pairs
  pub wide_b : JOINED_MODULES < modules → switches.b ≡ switch_of Back pairs

-- the command that joins a pair
abbrev pub join : Wiring → Pair → Command
join Both pair = Join (link0 pair.initiator) (link3 pair.responder)
join Forth pair = Connect pair.initiator pair.responder
join Back pair = Connect pair.responder pair.initiator
join (Board board) pair = Join (link0_on board pair.initiator) (link3_on board pair.responder)

-- the command that parts a pair
abbrev pub cut : Wiring → Pair → Command
cut Both pair = CutPair (link0 pair.initiator) (link3 pair.responder)
cut Forth pair = Cut pair.responder
cut Back pair = Cut pair.initiator
cut (Board board) pair = CutPair (link0_on board pair.initiator) (link3_on board pair.responder)

-- whether two pairs are one
abbrev pub is_pair : Pair → Pair → Bool
is_pair pair other = pair.initiator == other.initiator && pair.responder == other.responder

-- the pairs that aren't among others
abbrev pub without : List Pair → List Pair → List Pair
without others pairs = filter (λ pair. not (list_any (is_pair pair) others)) pairs

-- what sets any switch to pairs: a reset, the joins, and the end of the sequence
abbrev pub setting : Wiring → List Pair → List Command
setting wiring pairs = Reset ∷ (map (join wiring) pairs ++ Settle ∷ [])

-- what sets the switch of the old pairs to the new ones: the cuts of those that go, the joins of
-- those that come
abbrev pub change : Wiring → List Pair → List Pair → List Command
change wiring old new =
    map (cut wiring) (without new old) ++ (map (join wiring) (without old new) ++ Settle ∷ [])
