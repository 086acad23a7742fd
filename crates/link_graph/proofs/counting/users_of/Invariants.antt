use Rattle.std.proofs.Common.{◌≡◌, ◌+◌}
use Rattle.link_graph.proofs.Users.{UsersBelow}
use Rattle.link_graph.proofs.counting.users_of.Given as goal

abbrev pub invariant-loop-t : goal.invariant-loop-t
invariant-loop-t l = UsersBelow l.batch l.link l.t l.users.items × (l.steps ≡ l.fn.steps + l.t)
