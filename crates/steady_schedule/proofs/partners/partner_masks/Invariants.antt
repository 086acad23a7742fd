use Rattle.std.proofs.Common.{take}
use Rattle.steady_schedule.specs.Partners.{ArePartnerMasks}
use Rattle.steady_schedule.proofs.partners.partner_masks.Given as goal

abbrev pub invariant-loop-t : goal.invariant-loop-t
invariant-loop-t l = ArePartnerMasks (take l.t l.graph) l.masks
