use Rattle.std.proofs.Common.{arith}
use Rattle.board_wiring.proofs.Modules.{width_at}
use Rattle.board_wiring.proofs.board.Board.width.Goals as goal

pub returns-clause-width : goal.returns-clause-width
returns-clause-width c =
    let board = c.args.self.now in
    width_at board.lines board.count _ (omega (arith, c.if-self-eq0.false)) (omega (arith, board.few))
