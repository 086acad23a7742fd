use Rattle.link_graph.proofs.Users.{counted}
use Rattle.row_tests.proofs.tests.link_graph_rows.the_definitions_count_users.Goals as goal

pub returns : goal.returns
returns c = counted
