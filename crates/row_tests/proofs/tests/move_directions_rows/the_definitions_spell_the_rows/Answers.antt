use Rattle.std.proofs.Common.{refl}
use Rattle.std.specs.Fmt.{digits}
use Rattle.row_tests.proofs.tests.move_directions_rows.the_definitions_spell_the_rows.Goals as goal

pub returns-clause-no_moves : goal.returns-clause-no_moves
unfolding digits
returns-clause-no_moves c = refl

pub returns-clause-one_move : goal.returns-clause-one_move
unfolding digits
returns-clause-one_move c = refl
