use Rattle.std.proofs.Common.{◌≢◌}
use Rattle.batch.specs.declared.fault.BatchFault.TheVariants.{NoMemory}
use Rattle.board_wiring.specs.Boards.{modules_of}
use Rattle.board_wiring.specs.Missing.{HasWays}
use Rattle.board_wiring.proofs.ReadMissing.{none_is, of_fault, of_read}
use Rattle.board_wiring.proofs.missing.read_missing.Goals as goal

pub returns-in-Ok-clause-none : goal.returns-in-Ok-clause-none
returns-in-Ok-clause-none c =
    none_is c.first_missing.result (HasWays (modules_of c.in-Some.its) c.in-Ok.batch) _
    (of_read c.args.board.now c.in-Some.its c.args.text.now c.in-Ok.batch c.in-Some.is c.in-Ok.ensures.batch) c.first_missing.ensures.none

pub returns-in-Err-2-clause-none : goal.returns-in-Err-2-clause-none
returns-in-Err-2-clause-none c =
    let other : c.in-Err.fault ≢ NoMemory = λ e. let differs = rw e at c.if-eq.ensures in absurd cc in
    of_fault c.args.board.now c.args.text.now c.in-Err.fault (c.in-Err.ensures.fault other)
