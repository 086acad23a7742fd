use Rattle.exchange.proofs.Forewarned.{beside_by}
use Rattle.exchange.proofs.Told.{host_beside}
use Rattle.exchange.proofs.jobs.run_text_job.Goals as goal

pub returns-in-Replay-clause-beside : goal.returns-in-Replay-clause-beside
returns-in-Replay-clause-beside g c = host_beside _ c.args.request.now _ _ (rw (c.requires, c.in-Replay.is) tt) c.report_failure.ensures

pub returns-in_default-clause-beside : goal.returns-in_default-clause-beside
returns-in_default-clause-beside g c = beside_by _ c.args.request.now c.warning_of-warning.result _ _ c.warning_of-warning.ensures c.tell_beside.ensures
