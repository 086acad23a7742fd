use Rattle.std.proofs.Common.{arith}
use Rattle.std.proofs.lemmas.Bool.Decides.{nat_tests}
use Rattle.board_wiring.specs.Boards.{modules_of}
use Rattle.board_wiring.proofs.Modules.{taken_on}
use Rattle.board_wiring.proofs.board.Board.is_free.Goals as goal

pub returns-then-link-lt-PORTS : goal.returns-then-link-lt-PORTS
returns-then-link-lt-PORTS c = grind (
  arith,
  nat_tests,
  taken_on c.in-Some.link (modules_of c.args.self.now),
  c.in-Some.is,
  c.if-link-lt-PORTS.true,
  c.is_taken.ensures,
)
