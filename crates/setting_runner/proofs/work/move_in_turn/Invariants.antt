use Rattle.std.proofs.Common.{◌≡◌, length, take, drop}
use Rattle.setting_runner.proofs.Moves.{Completes}
use Rattle.setting_runner.proofs.work.move_in_turn.Given as goal

-- what has been moved, and any move of the rest, is a move of all
abbrev pub invariant-loop-i : goal.invariant-loop-i
invariant-loop-i g l = record {
  count : length l.moved ≡ l.i;
  left : drop l.i l.bays ≡ drop l.i l.fn.bays;
  completes : Completes (g.W.WireMaker.is_sure l.work.wires.now) l.work.rest.now l.work.batch.now l.numbers l.fn.bays l.i (take l.i l.bays) l.moved;
}
