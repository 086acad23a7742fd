use Rattle.std.proofs.Common.{◌≡◌, length, refl, ap, arith}
use Rattle.std.proofs.lemmas.Bool.Decides.{nat_tests}
use Rattle.std.proofs.lemmas.Result.{err_from_is_err_and}
use Rattle.board_wiring.specs.Boards.{modules_of}
use Rattle.board_wiring.specs.Faults.{at_module, at_end}
use Rattle.board_wiring.proofs.reading.read_wiring.Goals as goal

pub returns-in_err-board-clause-fault : goal.returns-in_err-board-clause-fault
returns-in_err-board-clause-fault c =
    let p = err_from_is_err_and c.from_residual.result c.from_residual.ensures.1 in
    rw (p.1, p.2) (at_module c.in-Some.count c.in-Some.lines.now c.in-Some.ensures.some c.in_err-board.ensures.err)

pub returns-then-not-is_empty-clause-fault : goal.returns-then-not-is_empty-clause-fault
returns-then-not-is_empty-clause-fault c =
    at_end c.in-Some.count c.in-Some.lines.now (modules_of c.in_ok-board.board) c.in_ok-board.rest.now c.in-Some.ensures.some c.in_ok-board.ensures.ok
    (λ nil. let none : length c.in_ok-board.rest.now ≡ 0 = ap length nil in grind (arith, nat_tests)) refl
