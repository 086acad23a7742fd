use Rattle.std.proofs.Common.{◌≡◌, IfSome}
use Rattle.std.specs.List.{flat_map, range_with_len}
use Rattle.crossbar.specs.Pairs.{ArePairs}
use Rattle.rack_answers.specs.Boards.{joined_on}
use Rattle.switch_settings.specs.Sending.{standing_before}
use Rattle.rack_answers.specs.Switching.{turning_lines}
use Rattle.rack_answers.proofs.switching.switch_answer.Given as goal

abbrev pub invariant-loop-number : goal.invariant-loop-number
invariant-loop-number l = record {
  text : l.text.items ≡ flat_map (turning_lines l.board l.wide l.batch l.schedule) (range_with_len 0 l.number);
  standing : l.standing ≡ standing_before l.batch l.schedule l.number;
  pairs : IfSome l.standing (λ old. ArePairs (joined_on l.board l.wide) old);
}
