use Rattle.std.proofs.Common.{◌+◌, get_or, drop, arith}
use Rattle.std.proofs.lemmas.List.{drop_all}
use Rattle.std.proofs.lemmas.Map.Keys.{IsDistinct-head, IsDistinct-tail}
use Rattle.link_graph.specs.Marks.{members}
use Rattle.steady_schedule.proofs.Ends.{has_ends}
use Rattle.steady_schedule.proofs.Joined.{same_start, starts_of, one_less, joined_less}
use Rattle.steady_schedule.proofs.changing.take_out.Goals as goal

pub loop-place-init : goal.loop-place-init
loop-place-init c = (c.requires.joined, (starts_of c.args.graph.now c.args.setting.now c.requires.known c.requires.matching).apart)

pub loop-place-preserved : goal.loop-place-preserved
loop-place-preserved c =
    let batch = c.args.graph.now in
    let setting = c.args.setting.now in
    let place = c.loop-place.place in
    let t_in = c.requires.known place 0 c.loop-place-test.true in
    let e = has_ends batch (get_or setting place 0) c.ends_of.result c.requires.batch t_in c.ends_of.ensures in
    let rest = members batch (drop (place + 1) setting) in
    let so_far = rw (one_less batch setting place e.x c.loop-place-test.true e.here) at c.loop-place.invariant in (
      joined_less rest e.x c.loop-place.joined c.ends_of.result.0.«module» so_far.0 e.start e.start_low (IsDistinct-head same_start e.x rest so_far.1),
      IsDistinct-tail same_start e.x rest so_far.1,
    )

pub returns : goal.returns
returns c = rw (drop_all c.loop-place.place c.args.setting.now (omega arith)) at c.loop-place.invariant.0
