use Rattle.std.proofs.Common.{refl}
use Rattle.std.specs.Fmt.{digits}
use Rattle.row_tests.proofs.tests.link_graph_rows.the_definitions_spell_the_rows.Goals as goal

pub returns-clause-three_transfers : goal.returns-clause-three_transfers
unfolding digits
returns-clause-three_transfers c = refl

pub returns-clause-certified : goal.returns-clause-certified
unfolding digits
returns-clause-certified c = refl

pub returns-clause-empty_batch : goal.returns-clause-empty_batch
unfolding digits
returns-clause-empty_batch c = refl

pub returns-clause-no_transfers : goal.returns-clause-no_transfers
unfolding digits
returns-clause-no_transfers c = refl
