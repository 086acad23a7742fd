use Rattle.std.proofs.Common.{arith}
use Rattle.steady_schedule.proofs.PartnerMasks.{most_is, none_joined}
use Rattle.steady_schedule.proofs.partners.most_partners.Goals as goal

pub returns-then-counts-most-eq0 : goal.returns-then-counts-most-eq0
returns-then-counts-most-eq0 c =
    none_joined c.args.graph.now c.partner_masks-masks.result c.loop-i.counts c.place_of_most-most.result c.len.ensures.batch c.partner_masks-masks.ensures
    (λ k lt. c.loop-i.invariant.1 k (omega arith)) c.place_of_most-most.ensures c.if-counts-most-eq0.true

pub returns : goal.returns
returns c =
    most_is c.args.graph.now c.partner_masks-masks.result c.loop-i.counts c.len.ensures.batch c.partner_masks-masks.ensures
    (λ k lt. c.loop-i.invariant.1 k (omega arith)) c.place_of_most-most.result c.place_of_most-most.ensures c.link_at.result c.if-counts-most-eq0.false
    c.link_at.ensures.index c.link_at.ensures.«module»
