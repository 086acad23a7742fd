use Rattle.row_tests.proofs.PlacedUses.{counted}
use Rattle.row_tests.proofs.tests.alternating_path_rows.the_definitions_count_placed_users.Goals as goal

pub returns : goal.returns
returns c = counted
