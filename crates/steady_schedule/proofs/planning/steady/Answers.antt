use Rattle.steady_schedule.proofs.Plans.{named_most}
use Rattle.steady_schedule.proofs.planning.steady.Goals as goal

pub schedule_of-requires-clause-most : goal.schedule_of-requires-clause-most
schedule_of-requires-clause-most c link =
    rw c.transfers.ensures.value (named_most c.in_ok-graph.graph c.in_ok-certificate.certificate.link c.in_ok-certificate.certificate.transfers
    c.in_ok-certificate.ensures link)
