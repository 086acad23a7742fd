use Rattle.schedule_certificate.proofs.Shortest.{is_plan, few_reinserted}
use Rattle.schedule_certificate.proofs.planning.planned_by.Goals as goal

pub of-requires : goal.of-requires
of-requires c = (
  is_plan c.args.batch c.args.coloured c.in_ok-certificate.certificate (rw (← c.batch.view_is) c.batch.invariant) (rw c.requires.graph at c.requires.coloured)
      (rw c.requires.graph at c.in_ok-certificate.ensures.named),
  few_reinserted c.args.batch c.args.coloured c.in_ok-certificate.certificate (rw c.requires.graph at c.requires.coloured)
      (rw c.requires.graph at c.in_ok-certificate.ensures.named),
)
