use Rattle.std.proofs.Common.{sym}
use Rattle.std.proofs.lemmas.List.{take_rest}
use Rattle.batch.specs.Text.{space}
use Rattle.batch.proofs.Lines.{first_from_position, parts_at_first, no_number, no_end}
use Rattle.line_words.proofs.Numbers.{space_ends}
use Rattle.line_words.proofs.reading.number_and_rest.Goals as goal

pub returns-in_err-at-clause-none : goal.returns-in_err-at-clause-none
returns-in_err-at-clause-none c = rw c.from_residual.ensures (λ n rest lt. no_end n space c.args.line.now rest lt space_ends (sym c.in_err-at.ensures))

pub returns-in_err-n-clause-none : goal.returns-in_err-n-clause-none
returns-in_err-n-clause-none c = rw c.from_residual-in_err-n.ensures (λ n rest lt. no_number n space c.in_ok-at.at c.args.line.now rest lt space_ends
    (first_from_position _ _ _ (sym c.in_ok-at.ensures)) c.in_err-n.ensures.none)

pub returns-clause-some : goal.returns-clause-some
returns-clause-some c =
    rw take_rest (
      c.in_ok-n.ensures.some.0,
      parts_at_first c.args.line.now space c.in_ok-at.at c.in_ok-n.n (first_from_position _ _ _ (sym c.in_ok-at.ensures))
          c.in_ok-n.ensures.some.1,
    )
