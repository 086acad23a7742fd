use Rattle.std.proofs.lemmas.Result.{err_from_is_err_and}
use Rattle.plan_answers.proofs.OneSource.{denoted, from_right}
use Rattle.plan_answers.specs.Schedules.{said_by}
use Rattle.rack_answers.specs.Answers.{texts_wrong, run_wrong}
use Rattle.rack_answers.proofs.Fitting.{fits_in}
use Rattle.rack_answers.proofs.running.run_texts.Goals as goal

pub returns-in_err-scheduled-clause-wrong : goal.returns-in_err-scheduled-clause-wrong
returns-in_err-scheduled-clause-wrong g c =
    let p = err_from_is_err_and c.from_residual-in_err-scheduled.result c.from_residual-in_err-scheduled.ensures.1 in
    rw (p.1, p.2) (λ real. texts_wrong c.in_ok-shape.shape c.in_ok-shape.ensures.shape (c.in_err-scheduled.ensures.wrong real))

pub run_on-requires-clause-fits : goal.run_on-requires-clause-fits
run_on-requires-clause-fits g c κs within =
    let its = c.in_ok-scheduled.scheduled in
    fits_in c.in_ok-shape.shape c.args.batch.now its.batch (denoted (said_by c.args.source) c.in_ok-shape.shape c.args.batch.now its.batch its.settings
    c.in_ok-scheduled.ensures.schedule)

pub returns-in_err-rack-clause-wrong : goal.returns-in_err-rack-clause-wrong
returns-in_err-rack-clause-wrong g c =
    let its = c.in_ok-scheduled.scheduled in
    let p = err_from_is_err_and c.from_residual-in_err-rack.result c.from_residual-in_err-rack.ensures.1 in
    let right = from_right (said_by c.args.source) c.in_ok-shape.shape c.args.batch.now its.batch its.settings c.in_ok-scheduled.ensures.schedule in
    rw (p.1, p.2) (λ real. run_wrong c.in_ok-shape.shape its.batch c.in_ok-shape.ensures.shape right (c.in_err-rack.ensures.wrong real))

pub returns-clause-ran : goal.returns-clause-ran
returns-clause-ran g c = record {
  extent = c.in_ok-shape.shape;
  shape_read = c.in_ok-shape.ensures.shape;
  scheduled = c.in_ok-scheduled.ensures.schedule;
  is_left = c.in_ok-rack.ensures.left;
}
