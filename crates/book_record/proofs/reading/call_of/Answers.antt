use Rattle.std.proofs.Common.{None, Some, ◌∙◌, sym}
use Rattle.book_record.proofs.CallTexts.{called, still_none, uncalled}
use Rattle.book_record.proofs.reading.call_of.Goals as goal

pub returns-in_err-read-clause-none : goal.returns-in_err-read-clause-none
returns-in_err-read-clause-none c =
    rw c.from_residual.ensures (uncalled c.args.line.now None c.in_err-read.ensures c.in_default.ensures.none c.in_default-number_after.ensures.none
    (λ call one is other. absurd cc))

pub returns-clause-some : goal.returns-clause-some
returns-clause-some c = called c.call_by.result c.args.line.now c.in_ok-read.field-0 c.in_ok-read.ensures c.call_by.ensures.some

pub returns-clause-none : goal.returns-clause-none
returns-clause-none c =
    still_none c.call_by.result _ _ (λ none. uncalled c.args.line.now (Some c.in_ok-read.field-0) c.in_ok-read.ensures c.in_default.ensures.none
    c.in_default-number_after.ensures.none (λ call one is other. none call (is ∙ sym other)))
    c.call_by.ensures.none
