use Rattle.std.proofs.Common.{ℕ, List, ◌++◌, None, Some, sym, ap, ◌∙◌, append_assoc}
use Rattle.std.proofs.lemmas.Bool.Decides.{Decides-eqb}
use Rattle.std.proofs.lemmas.Slice.Eq.{strip_prefix_is}
use Rattle.batch.specs.Numbers.{number, line_feed}
use Rattle.batch.proofs.ListReading.{headed}
use Rattle.batch.proofs.list_reading.first_line.Goals as goal

pub returns-in_err-strip_prefix-clause-none : goal.returns-in_err-strip_prefix-clause-none
returns-in_err-strip_prefix-clause-none g c = rw c.from_residual.ensures (λ n rest begins.
    strip_prefix_is Decides-eqb c.args.text.now c.as_bytes.result.now None c.in_err-strip_prefix.ensures.cases (number n line_feed ++ rest)
    (begins.1 ∙ append_assoc g.T.Listed.form.heading (number n line_feed) rest ∙ ap (λ (h : List ℕ). h ++ (number n line_feed ++ rest))
    (sym (c.as_bytes.ensures.value ∙ c.heading.ensures))))

pub returns-clause-some : goal.returns-clause-some
returns-clause-some g c =
    let parts = strip_prefix_is Decides-eqb c.args.text.now c.as_bytes.result.now (Some c.in_ok-strip_prefix.field-0) c.in_ok-strip_prefix.ensures.cases in
    headed g.T.Listed.form c.args.text.now c.as_bytes.result.now c.in_ok-strip_prefix.field-0.now c.number_before.result
    (c.as_bytes.ensures.value ∙ c.heading.ensures) parts c.number_before.ensures.some
