use Rattle.std.proofs.Common.{refl}
use Rattle.std.specs.Fmt.{digits}
use Rattle.row_tests.proofs.tests.batch_rows.the_definitions_spell_the_rows.Goals as goal

pub returns-clause-three_transfers : goal.returns-clause-three_transfers
unfolding digits
returns-clause-three_transfers c = refl

pub returns-clause-empty_batch : goal.returns-clause-empty_batch
unfolding digits
returns-clause-empty_batch c = refl

pub returns-clause-pull : goal.returns-clause-pull
unfolding digits
returns-clause-pull c = refl

pub returns-clause-shape : goal.returns-clause-shape
unfolding digits
returns-clause-shape c = refl

pub returns-clause-widest_shape : goal.returns-clause-widest_shape
unfolding digits
returns-clause-widest_shape c = refl
