use Rattle.std.proofs.Common.{◌≡◌, ◌<◌, length, take, arith}
use Rattle.std.proofs.lemmas.List.{take_all}
use Rattle.std.proofs.lemmas.Nat.{one_shl}
use Rattle.steady_schedule.proofs.Ends.{has_ends, one_more}
use Rattle.steady_schedule.proofs.PartnerMasks.{no_masks, masks_more}
use Rattle.steady_schedule.proofs.partners.partner_masks.Goals as goal

pub loop-t-init : goal.loop-t-init
loop-t-init c = no_masks

pub loop-t-preserved : goal.loop-t-preserved
loop-t-preserved c =
    let t_in : c.loop-t.t < length c.args.graph.now = omega arith in
    let e = has_ends c.args.graph.now c.loop-t.t c.ends_of.result c.requires t_in c.ends_of.ensures in
    rw (
      one_more c.args.graph.now c.loop-t.t e.x e.here,
      one_shl c.ends_of.result.0.«module» 32 e.start_low,
      one_shl c.ends_of.result.1.«module» 32
          e.answer_low,
    )
    (masks_more (take c.loop-t.t c.args.graph.now) e.x c.loop-t.masks c.ends_of.result.0.«module» c.ends_of.result.1.«module» c.loop-t.invariant e.start
    e.answer e.start_low e.answer_low)

pub returns : goal.returns
returns c =
    let all : take c.loop-t.t c.args.graph.now ≡ c.args.graph.now = take_all _ _ (omega arith) in
    rw all at c.loop-t.invariant
