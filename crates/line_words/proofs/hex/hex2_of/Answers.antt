use Rattle.std.proofs.Common.{◌≡◌, ◌/◌, ◌%◌, refl, arith}
use Rattle.line_words.specs.HexWords.{hex2}
use Rattle.line_words.proofs.hex.hex2_of.Goals as goal

pub returns : goal.returns
unfolding hex2
returns c =
    let high : c.args.byte / 16 % 16 ≡ c.args.byte / 16 = omega arith in
    rw (c.digit_of.ensures, c.digit_of-2.ensures, c.from-value.ensures, high) refl
