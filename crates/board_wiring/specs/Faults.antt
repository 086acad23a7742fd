-- The first line at fault of a text that denotes no wiring. This project's choice.
use Rattle.std.specs.Prelude.{◌≡◌, ◌≢◌, ◌<◌, ◌≤◌, ◌+◌, ℕ, List, [], ◌∷◌, ◌++◌, length, IsTrue}
use Rattle.std.specs.Prelude.{Option, IfSome}
use Rattle.c004_commands.specs.declared.port.TheConstants.{PORTS}
use Rattle.crossbar.specs.declared.switch.TheConstants.{JOINED_MODULES}
use Rattle.board_wiring.specs.Modules.{are_wired}
use Rattle.board_wiring.specs.Text.{head, line, lines_of}
use Rattle.board_wiring.specs.declared.fault.WiringFault.{WiringFault}
use Rattle.board_wiring.specs.declared.fault.WiringFault.TheVariants.{Line}
use Rattle.board_wiring.specs.declared.wired_module.WiredModule.{WiredModule}

-- the text begins with the line `wiring N`, for an N that may be
pub record IsHeaded (text : List ℕ) (count : ℕ) (rest : List ℕ) : Type 0 where
  pub spelled : text ≡ head count ++ rest
  pub some : 1 ≤ count
  pub few : count ≤ JOINED_MODULES

-- it begins with no such line
abbrev pub HasNoHead : List ℕ → Type 0
HasNoHead text = (count : ℕ) (rest : List ℕ) → IsHeaded text count rest → ⊥

-- the switch has the link, where there is one
abbrev pub IsPort : Option ℕ → Type 0
IsPort link = IfSome link (λ link. link < PORTS)

-- one switch joins a module of this number, and has the links that it is on
abbrev pub HasPorts : WiredModule → Type 0
HasPorts on = (on.number < JOINED_MODULES) × IsPort on.link0 × IsPort on.link3

-- the lines of as many modules as counted, which are a wiring, and then the rest
pub record AreModules (lines : List ℕ) (count : ℕ) (modules : List WiredModule) (rest : List ℕ)
    : Type 0 where
  pub counted : length modules ≡ count
  pub wired : IsTrue (are_wired modules)
  pub spelled : lines ≡ lines_of modules ++ rest

-- no line of a module follows that makes a wiring with those of these modules
abbrev pub EndsAt : List WiredModule → List ℕ → Type 0
EndsAt modules rest =
    (on : WiredModule) (after : List ℕ) → rest ≡ line on ++ after
    → IsTrue (are_wired (modules ++ on ∷ [])) → ⊥

-- of the lines of as many modules as counted this is the first at fault, where the first of them is
-- line 2
abbrev pub StopsAt : List ℕ → ℕ → WiringFault → Type 0
StopsAt lines count (Line n) =
    (modules : List WiredModule) × (rest : List ℕ)
    × AreModules lines (length modules) modules rest × (length modules < count)
    × EndsAt modules rest × (n ≡ length modules + 2)

-- The first line at fault: line 1, the line of a module after those that are as they should be, or
-- the line after the last.
pub data IsFirstBad (text : List ℕ) (fault : WiringFault) : Type 0 where
  at_head : HasNoHead text → fault ≡ Line 1 → IsFirstBad text fault
  at_module : (count : ℕ) (lines : List ℕ) → IsHeaded text count lines
      → StopsAt lines count fault → IsFirstBad text fault
  at_end : (count : ℕ) (lines : List ℕ) (modules : List WiredModule) (rest : List ℕ)
      → IsHeaded text count lines → AreModules lines count modules rest → rest ≢ []
      → fault ≡ Line (count + 2) → IsFirstBad text fault
