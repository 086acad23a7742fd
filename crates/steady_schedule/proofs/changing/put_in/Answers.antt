use Rattle.std.proofs.Common.{◌≡◌, get_or, take, arith}
use Rattle.std.proofs.lemmas.List.{take_all}
use Rattle.link_graph.specs.Marks.{members}
use Rattle.link_graph.proofs.Sharing.{some_more}
use Rattle.steady_schedule.proofs.Ends.{has_ends}
use Rattle.steady_schedule.proofs.Joined.{joined_more, fresh_module}
use Rattle.steady_schedule.proofs.changing.put_in.Goals as goal

pub loop-place-init : goal.loop-place-init
loop-place-init c = c.requires.none

pub loop-place-preserved : goal.loop-place-preserved
loop-place-preserved c =
    let batch = c.args.graph.now in
    let setting = c.args.setting.now in
    let place = c.loop-place.place in
    let t_in = c.requires.known place 0 c.loop-place-test.true in
    let e = has_ends batch (get_or setting place 0) c.ends_of.result c.requires.batch t_in c.ends_of.ensures in
    rw (some_more batch setting place 0 e.x c.loop-place-test.true e.here)
    (joined_more (members batch (take place setting)) e.x c.loop-place.joined c.ends_of.result.0.«module» c.ends_of.result.1.«module» c.loop-place.invariant
    e.start e.answer e.start_low (λ v. rw e.start (fresh_module batch setting place v e.x c.loop-place-test.true e.here c.requires.matching)))

pub returns : goal.returns
returns c =
    let all : take c.loop-place.place c.args.setting.now ≡ c.args.setting.now = take_all _ _ (omega arith) in
    rw all at c.loop-place.invariant
