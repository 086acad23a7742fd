-- What is so of a board, and of the text of its wiring.
use Rattle.std.proofs.Common.{ℕ, List, Option, Some, None}
use Rattle.std.specs.Borrow.{Bor}
use Rattle.std.specs.Prelude.{option_map}
use Rattle.board_wiring.specs.Boards.{IsBoardOf, IsMiswired}
use Rattle.board_wiring.specs.Sources.{of_wiring}
use Rattle.board_wiring.specs.declared.board.Board.{Board}
use Rattle.board_wiring.specs.declared.fault.WiringFault.{WiringFault}
use Rattle.refusals.specs.Refusals.{refusal_words}
use Rattle.plan_answers.specs.Lent.{bytes_of}
use Rattle.plan_answers.specs.Refusals.{Printed, IsRefused}
use Rattle.rack_answers.specs.Switching.{IsOn, wired, miswired}

-- what is so of the board is so of the text
pub on_board : (Is : Option Board → Printed → Type 0) (text : Option (Bor (List ℕ))) (board : Option Board) (p : Printed)
    → IsBoardOf (option_map (λ (lent : Bor (List ℕ)). lent.now) text) board → Is board p → IsOn Is (bytes_of text) p
on_board Is None None p is so = so
on_board Is None (Some board) p is so = absurd is
on_board Is (Some text) None p is so = absurd is
on_board Is (Some text) (Some board) p is so = wired board is so

-- and its first line at fault is refused
pub on_fault : (Is : Option Board → Printed → Type 0) (text : Option (Bor (List ℕ))) (fault : WiringFault) (p : Printed)
    → IsMiswired (option_map (λ (lent : Bor (List ℕ)). lent.now) text) fault → IsRefused (refusal_words (of_wiring fault)) p → IsOn Is (bytes_of text) p
on_fault Is None fault p is refused = absurd is
on_fault Is (Some text) fault p is refused = miswired fault is refused
