-- The text of a list of moves. The form is this project's choice.
use Rattle.std.specs.Prelude.{List, ℕ, codes}
use Rattle.batch.specs.ShapeView.{widest}
use Rattle.batch.specs.Lists as lists
use Rattle.batch.specs.Lists.{Form}
use Rattle.move_directions.specs.declared.moves.Move.{Move}

-- the form of a list of moves: the line `moves N`, then N lines `move M b N c`
abbrev pub moves_form : Form Move
moves_form =
    record {
      heading = codes "moves ";
      first_word = λ _. codes "move ";
      first = λ x. x.source;
      second = λ x. x.destination;
    }

-- it is between blocks of the widest shape
abbrev pub IsWithin : Move → Type 0
IsWithin = lists.IsWithin moves_form widest

-- the one text of a list of moves
abbrev pub moves_text : List Move → List ℕ
moves_text = lists.list_text moves_form

-- the text is that of these moves, which the limits allow
abbrev pub Denotes : List ℕ → List Move → Type 0
Denotes = lists.Denotes moves_form widest
