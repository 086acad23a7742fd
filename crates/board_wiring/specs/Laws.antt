-- Laws of the text of a wiring, each of them a statement of the definitions alone.
use Rattle.std.specs.Prelude.{◌≡◌, ℕ, List}
use Rattle.board_wiring.specs.Faults.{IsFirstBad}
use Rattle.board_wiring.specs.Text.{Denotes}
use Rattle.board_wiring.specs.declared.wired_module.WiredModule.{WiredModule}
use Rattle.board_wiring.specs.declared.fault.WiringFault.{WiringFault}

-- a text denotes at most one wiring
abbrev pub OneWiring : Type 0
OneWiring =
    (text : List ℕ) (one other : List WiredModule) → Denotes text one → Denotes text other
    → one ≡ other

-- a text that denotes a wiring has no line at fault
abbrev pub NeverBoth : Type 0
NeverBoth =
    (text : List ℕ) (modules : List WiredModule) (fault : WiringFault) → Denotes text modules
    → IsFirstBad text fault → ⊥

-- a text has at most one first line at fault
abbrev pub OneBadLine : Type 0
OneBadLine =
    (text : List ℕ) (one other : WiringFault) → IsFirstBad text one → IsFirstBad text other
    → one ≡ other
