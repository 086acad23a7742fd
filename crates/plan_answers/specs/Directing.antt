-- What `direct` answers.
use Rattle.std.specs.Prelude.{◌≡◌, ℕ, List}
use Rattle.batch.specs.declared.fault.BatchFault.{BatchFault}
use Rattle.batch.specs.declared.fault.BatchFault.TheVariants.{Line}
use Rattle.batch.specs.declared.transfer.Transfer.{Transfer}
use Rattle.batch.specs.ShapeView.{widest}
use Rattle.batch.specs.Text as batch_text
use Rattle.move_directions.specs.declared.moves.Move.{Move}
use Rattle.move_directions.specs.Directions.{HalvesEnds}
use Rattle.move_directions.specs.Faults.{IsFirstFault}
use Rattle.move_directions.specs.Moves.{Directs}
use Rattle.move_directions.specs.Text.{Denotes}
use Rattle.refusals.specs.declared.refusal.Refusal.{Refusal}
use Rattle.refusals.specs.declared.refusal.Refusal.TheVariants.{MovesLine}
use Rattle.refusals.specs.Refusals.{refusal_words}
use Rattle.refusals.specs.Sources.{of_batch}
use Rattle.plan_answers.specs.declared.limits.TheConstants.{DONE}
use Rattle.plan_answers.specs.Refusals.{Printed, IsRefused}

-- the refusal of the fault of a text of moves: that of a batch text, but for the name of the text
abbrev pub of_moves : BatchFault → Refusal
of_moves (Line n) = MovesLine n
of_moves fault = of_batch fault

-- The batch text is one of a batch that does the moves, in their order, and each link has at most
-- half of the ends at its module, rounded up. So no directions need fewer settings.
pub record SaysDirections (moves : List Move) (text : List ℕ) : Type 0 where
  pub batch : List Transfer
  pub says : batch_text.Denotes widest text batch
  pub directs : Directs moves batch
  pub halves : HalvesEnds moves batch

-- such a batch text for the moves that the text of moves denotes, or the refusal of that text's
-- first fault, each under its status
pub data IsDirected (moves : List ℕ) (printed : Printed) : Type 0 where
  directed : (list : List Move) → Denotes moves list → SaysDirections list printed.text
      → printed.status ≡ DONE → IsDirected moves printed
  refused : (fault : BatchFault) → IsFirstFault moves fault
      → IsRefused (refusal_words (of_moves fault)) printed → IsDirected moves printed
