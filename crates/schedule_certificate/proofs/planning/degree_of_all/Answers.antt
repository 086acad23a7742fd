use Rattle.std.proofs.Common.{inr, refl}
use Rattle.schedule_certificate.proofs.planning.degree_of_all.Goals as goal

pub returns-in-Some : goal.returns-in-Some
returns-in-Some c = rw c.uses.ensures (record { most = c.in-Some.ensures.most.most; reached = inr (c.in-Some.link, refl) })
