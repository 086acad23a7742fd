use Rattle.std.proofs.Common.{◌≡◌, ◌∷◌, length, take, get_or, ◌∙◌, ap, arith}
use Rattle.std.proofs.lemmas.List.{length-append, take_at, get_or_at}
use Rattle.batch.specs.Text.{space}
use Rattle.line_words.specs.HexWords.{hex8}
use Rattle.line_words.proofs.Numbers.{length-hex8}
use Rattle.line_words.proofs.reading.hex8_and_rest.Goals as goal

pub returns-then-line-le-HEX_DIGITS-clause-none : goal.returns-then-line-le-HEX_DIGITS-clause-none
returns-then-line-le-HEX_DIGITS-clause-none c = λ w rest fits e. omega (
  arith,
  ap length e,
  length-append (hex8 w) (space ∷ rest),
  length-hex8 w,
  c.if-line-le-HEX_DIGITS.true,
)

pub returns-then-line-ne32-clause-none : goal.returns-then-line-ne32-clause-none
returns-then-line-ne32-clause-none c = λ w rest fits e.
    let is : get_or c.args.line.now 8 0 ≡ space = ap (λ l. get_or l 8 0) e ∙ get_or_at (hex8 w) space rest 0 8 (length-hex8 w) in
    omega (arith, is, c.if-line-ne32.true)

pub returns-in_err-word-clause-none : goal.returns-in_err-word-clause-none
returns-in_err-word-clause-none c =
    rw c.from_residual.ensures (λ w rest fits e. c.in_err-word.ensures.none w fits (ap (take 8) e ∙ take_at (hex8 w) (space ∷ rest) 8 (length-hex8 w)))
