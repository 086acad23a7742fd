use Rattle.std.proofs.Common.{◌≡◌, ◌≤◌, ◌+◌, ◌*◌, ◌++◌, length, take, codes}
use Rattle.std.specs.Fmt.{decimal}
use Rattle.std.specs.List.{flat_map}
use Rattle.switch_driver.specs.Lines.{number_word}
use Rattle.switch_driver.proofs.lines.line_of.Given as goal

abbrev pub invariant-loop-number : goal.invariant-loop-number
invariant-loop-number l = record {
  text : l.line ≡ codes "setting " ++ decimal l.setting ++ flat_map number_word (take l.number-index l.numbers);
  room : length l.line ≤ 28 + 21 * l.number-index;
}
