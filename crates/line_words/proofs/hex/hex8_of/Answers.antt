use Rattle.std.proofs.Common.{◌≡◌, ◌+◌, ◌-◌, ◌<◌, ◌∙◌, length, arith, length-set}
use Rattle.line_words.specs.HexWords.{hex8}
use Rattle.line_words.proofs.Numbers.{digit_in_front}
use Rattle.line_words.proofs.hex.hex8_of.Goals as goal

pub loop-behind-preserved : goal.loop-behind-preserved
loop-behind-preserved c =
    let behind = c.loop-behind.behind in
    let digits = c.loop-behind.digits in
    let here : 8 - (behind + 1) ≡ 7 - behind = omega arith in
    let more : 7 - behind + 1 ≡ 8 - behind = omega (arith, c.loop-behind-test.true) in
    let less : 7 - behind < length digits = omega (arith, c.loop-behind.invariant.places) in
    record {
      written = rw (here, c.digit_of.ensures) (digit_in_front (7 - behind) c.loop-behind.front digits less ∙ rw more c.loop-behind.invariant.written);
      places = length-set digits (7 - behind) c.digit_of.result ∙ c.loop-behind.invariant.places;
    }

pub returns : goal.returns
unfolding hex8
returns c =
    let none : 8 - c.loop-behind.behind ≡ 0 = omega (arith, c.loop-behind-test.false) in
    rw none at c.loop-behind.invariant.written
