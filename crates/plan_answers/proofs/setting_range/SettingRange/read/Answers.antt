use Rattle.std.proofs.Common.{◌∷◌, ◌∙◌, arith}
use Rattle.std.specs.Fmt.{decimal}
use Rattle.plan_answers.proofs.Ranges.{point, range_parts, to_first, to_more, to_last}
use Rattle.plan_answers.proofs.setting_range.SettingRange.read.Goals as goal

pub returns-in_err-first-clause-none : goal.returns-in_err-first-clause-none
returns-in_err-first-clause-none c = rw c.from_residual.ensures (λ b denotes. c.in_err-first.ensures.none b.first (point ∷ decimal b.last) denotes.first
    (denotes.spelled ∙ range_parts b))

pub returns-in_err-rest_after-clause-none : goal.returns-in_err-rest_after-clause-none
returns-in_err-rest_after-clause-none c = rw c.from_residual-in_err-rest_after.ensures (λ b denotes.
    c.in_err-rest_after.ensures (decimal b.last) (to_first c.args.text.now c.in_ok-first.first c.in_ok-first.rest.now b c.in_ok-first.ensures.some denotes).1)

pub returns-in_err-last-clause-none : goal.returns-in_err-last-clause-none
returns-in_err-last-clause-none c = rw c.from_residual-in_err-last.ensures (λ b denotes.
    c.in_err-last.ensures.none b.last denotes.last
    (to_more c.args.text.now c.in_ok-first.first c.in_ok-first.rest.now c.in_ok-rest_after.field-0.now b c.in_ok-first.ensures.some c.in_ok-rest_after.ensures
    denotes).1)

pub returns-then-last-first-clause-none : goal.returns-then-last-first-clause-none
returns-then-last-first-clause-none c = λ b denotes.
    let p = to_last c.args.text.now c.in_ok-first.first c.in_ok-last.last c.in_ok-first.rest.now c.in_ok-rest_after.field-0.now b c.in_ok-first.ensures.some
    c.in_ok-rest_after.ensures c.in_ok-last.ensures.some denotes in
    omega (arith, p.0, p.1, denotes.some, c.if-last-first.true)
