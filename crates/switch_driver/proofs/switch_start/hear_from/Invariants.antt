use Rattle.std.proofs.Common.{◌≡◌, ◌+◌, ℕ, map}
use Rattle.std.specs.List.{range_with_len}
use Rattle.crossbar.specs.Traffic.{heard_from}
use Rattle.switch_driver.specs.Streams.{StreamCarries}
use Rattle.switch_driver.specs.ComingUp.{own_answer}
use Rattle.switch_driver.proofs.switch_start.hear_from.Given as goal

abbrev pub invariant-loop-output : goal.invariant-loop-output
invariant-loop-output g l = record {
  count : ℕ;
  at : l.first + count ≡ l.output;
  carried : StreamCarries g.O.Write.contents g.I.Read.remaining l.initial.stream l.stream l.initial.came_up l.came_up
      (heard_from l.chip (map own_answer (range_with_len l.first count)));
}
