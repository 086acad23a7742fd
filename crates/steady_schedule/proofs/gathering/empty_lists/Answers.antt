use Rattle.std.proofs.Common.{◌≡◌, arith}
use Rattle.steady_schedule.proofs.Gathered.{no_lists, more_lists}
use Rattle.steady_schedule.proofs.gathering.empty_lists.Goals as goal

pub loop-init : goal.loop-init
loop-init c = rw c.in_ok-lists.ensures.items no_lists

pub loop-preserved : goal.loop-preserved
loop-preserved c = more_lists c.loop.lists.items _ c.in_ok-with_capacity.field-0 c.loop.counter c.in_ok-push.ensures.items c.in_ok-with_capacity.ensures.items
    c.loop.invariant

pub returns : goal.returns
returns c =
    let all : c.loop.counter ≡ c.args.count = omega arith in
    rw all at c.loop.invariant
