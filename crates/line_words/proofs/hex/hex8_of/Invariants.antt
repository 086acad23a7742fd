use Rattle.std.proofs.Common.{◌≡◌, ◌-◌, ◌++◌, drop, length}
use Rattle.line_words.specs.HexWords.{hex_digits}
use Rattle.line_words.specs.declared.limits.TheConstants.{HEX_DIGITS}
use Rattle.line_words.proofs.hex.hex8_of.Given as goal

abbrev pub invariant-loop-behind : goal.invariant-loop-behind
invariant-loop-behind l = record {
  written : hex_digits (HEX_DIGITS - l.behind) l.front ++ drop (HEX_DIGITS - l.behind) l.digits ≡ hex_digits HEX_DIGITS l.word;
  places : length l.digits ≡ HEX_DIGITS;
}
