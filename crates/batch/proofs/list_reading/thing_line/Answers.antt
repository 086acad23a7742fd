use Rattle.std.proofs.Common.{◌≡◌, ◌∙◌}
use Rattle.batch.specs.Numbers.{space}
use Rattle.batch.proofs.Lines.{after_word, after_first, line_parts, one_place, ends_space}
use Rattle.batch.proofs.list_reading.thing_line.Goals as goal

pub returns-in_err-second-clause-none : goal.returns-in_err-second-clause-none
returns-in_err-second-clause-none g c = rw c.from_residual-in_err-second.ensures (λ x rest begins.
    let form = g.T.Listed.form in
    let word : c.in_ok-word.rest.now ≡ after_word form x rest = c.in_ok-word.ensures.rest x _ (begins.1 ∙ line_parts form x rest) in
    let first = one_place c.in_ok-word.rest.now c.in_ok-first.first (form.first x) space c.in_ok-first.rest.now (after_first form x rest) ends_space
    c.in_ok-first.ensures.some (begins.0.0, word) in
    c.in_err-second.ensures.none (form.second x) rest (begins.0.1, first.1))
