use Rattle.std.proofs.Common.{take}
use Rattle.schedule_certificate.specs.FirstFit.{IsOpenTo}
use Rattle.schedule_certificate.proofs.greedy.is_open.Given as goal

abbrev pub invariant-loop-u : goal.invariant-loop-u
invariant-loop-u l = IsOpenTo l.batch (take l.u-index l.setting) l.t
