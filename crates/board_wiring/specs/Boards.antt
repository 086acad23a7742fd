-- A board as the text of its wiring says it is, or a rack that is wired as usual.
use Rattle.std.specs.Prelude.{◌≡◌, ℕ, List, Option, Some, None, IfSome, All, length, take, ⊤}
use Rattle.board_wiring.specs.Faults.{IsFirstBad}
use Rattle.board_wiring.specs.Modules.{after_last}
use Rattle.board_wiring.specs.Text.{Denotes}
use Rattle.board_wiring.specs.declared.board.Board.{Board}
use Rattle.board_wiring.specs.declared.fault.WiringFault.{WiringFault}
use Rattle.board_wiring.specs.declared.wired_module.WiredModule.{WiredModule}
use Rattle.crossbar.specs.Wired.{links_of, link0_on, link3_on}
use Rattle.crossbar.specs.declared.board.BoardWiring.{BoardWiring}

-- what a board's wiring says, module by module
abbrev pub modules_of : Board → List WiredModule
modules_of board = take board.count board.lines

-- the number after that of its last module
abbrev pub width_of : Board → ℕ
width_of board = after_last 0 (modules_of board)

-- ---- where there may be a board

-- the board is that of which a text says the wiring, or none where there is no text
abbrev pub IsBoardOf : Option (List ℕ) → Option Board → Type 0
IsBoardOf None None = ⊤
IsBoardOf None (Some board) = ⊥
IsBoardOf (Some text) None = ⊥
IsBoardOf (Some text) (Some board) = Denotes text (modules_of board)

-- there is a text, and its first line at fault is this
abbrev pub IsMiswired : Option (List ℕ) → WiringFault → Type 0
IsMiswired None fault = ⊥
IsMiswired (Some text) fault = IsFirstBad text fault

-- ---- a wiring that leaves no link out

-- each module's links are where the board's wiring says
abbrev pub KeepsLinks : BoardWiring → WiredModule → Type 0
KeepsLinks wiring on =
    IfSome on.link0 (λ link. link0_on wiring on.number ≡ link)
    × IfSome on.link3 (λ link. link3_on wiring on.number ≡ link)

-- It wires the modules up to the board's last. Where the board's wiring says on which link of the
-- switch a link is, it is there. What the board's wiring leaves out is on links that are free.
pub record Fills (board : Board) (wiring : BoardWiring) : Type 0 where
  pub all : length (links_of wiring) ≡ width_of board
  pub kept : All (KeepsLinks wiring) (modules_of board)

-- the same where there may be a board
abbrev pub IsFilled : Option Board → Option BoardWiring → Type 0
IsFilled None None = ⊤
IsFilled None (Some wiring) = ⊥
IsFilled (Some board) None = ⊥
IsFilled (Some board) (Some wiring) = Fills board wiring
