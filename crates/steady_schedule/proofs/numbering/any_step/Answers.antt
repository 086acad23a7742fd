use Rattle.steady_schedule.proofs.numbering.any_step.Goals as goal

pub returns-clause-some_longest : goal.returns-clause-some_longest
returns-clause-some_longest c = c.next_step-held.ensures.can.some
