use Rattle.std.proofs.Common.{ap, refl, sym, ◌∙◌}
use Rattle.setting_runner.specs.declared.outcome.Outcome.TheVariants.{Refused}
use Rattle.rack_answers.proofs.running.run_plain.Goals as goal

pub returns-in-Completed-clause-apart : goal.returns-in-Completed-clause-apart
returns-in-Completed-clause-apart g c =
    c.first_overlap.ensures.none c.args.batch.now (λ i j first.
    let bad = sym c.in-Completed.is ∙ (c.run-rack.ensures.overlap i j).1 first in
    absurd cc)

pub returns-in-Overlap-clause-wrong : goal.returns-in-Overlap-clause-wrong
returns-in-Overlap-clause-wrong g c real =
    let i = c.in-Overlap.i in
    let j = c.in-Overlap.j in
    (i, j, (c.run-rack.ensures.overlap i j).0 (c.in-Refused.is ∙ ap Refused c.in-Overlap.is), refl)
