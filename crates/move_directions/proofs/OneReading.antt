-- A text denotes one list of moves or has one first fault, and not both.
use Rattle.std.proofs.Common.{ap, ◌∙◌}
use Rattle.batch.specs.declared.transfer.Place.{Place}
use Rattle.batch.specs.ShapeView.{widest}
use Rattle.batch.proofs.Lines.{Tells}
use Rattle.batch.proofs.OneList as lists
use Rattle.batch.proofs.Shapes.{widest_shape}
use Rattle.move_directions.specs.declared.moves.Move.{Move}
use Rattle.move_directions.specs.Laws.{OneMoveList, NeverBoth, OneFault}
use Rattle.move_directions.specs.Text.{moves_form}

abbrev between : Place → Place → Move
between p q = record { source = p; destination = q }

moves_tell : Tells moves_form
moves_tell x y a b e = (cc, λ first second. ap (λ (p : Place). between p x.destination) first ∙ ap (λ (q : Place). between y.source q) second)

pub one_list : OneMoveList
one_list = lists.one_list moves_form moves_tell widest widest_shape

pub apart : NeverBoth
apart = lists.apart moves_form moves_tell widest widest_shape

pub one_fault : OneFault
one_fault = lists.one_fault moves_form moves_tell widest widest_shape
