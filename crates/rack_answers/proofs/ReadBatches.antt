-- The modules of a batch that needs nothing that a board hasn't.
use Rattle.std.proofs.Common.{Bool, true, false, ◌||◌, List, Option, None, Some, refl}
use Rattle.batch.specs.Batches.{IsBatch}
use Rattle.batch.specs.Overlap.{no_transfer}
use Rattle.batch.specs.declared.transfer.Transfer.{Transfer}
use Rattle.board_wiring.specs.Boards.{IsFilled}
use Rattle.board_wiring.specs.Missing.{HasWaysOn}
use Rattle.board_wiring.specs.declared.board.Board.{Board}
use Rattle.board_wiring.proofs.ReadBoards.{joins_all}
use Rattle.crossbar.specs.declared.board.BoardWiring.{BoardWiring}
use Rattle.switch_settings.proofs.Racks.{has_modules}
use Rattle.switch_settings.specs.Racks.{HasModulesOf, is_wide}
use Rattle.rack_answers.specs.Boards.{joined_on}

-- a wiring that leaves nothing out has all modules of such a batch; and the switches of another
-- rack join them, where they are two, or as many as it needs
pub all_joined : (board : Option Board) (wiring : Option BoardWiring) (has_two : Bool) (batch : List Transfer) → IsBatch batch → IsFilled board wiring
    → HasWaysOn board batch → HasModulesOf (joined_on wiring (has_two || is_wide batch)) batch
all_joined board None true batch is fills has = λ i below. (is.within i no_transfer below).0
all_joined board None false batch is fills has = has_modules batch (is_wide batch) is refl
all_joined board (Some w) has_two batch is fills has = joins_all board (Some w) batch fills has
