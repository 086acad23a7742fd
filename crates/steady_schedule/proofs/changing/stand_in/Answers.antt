use Rattle.std.proofs.Common.{◌≡◌, ◌∙◌, true, false, not, get_or, refl, sym, ap, arith}
use Rattle.std.proofs.lemmas.List.{drop_all}
use Rattle.steady_schedule.specs.Changes.{are_partners}
use Rattle.steady_schedule.proofs.Ends.{has_ends}
use Rattle.steady_schedule.proofs.Joined.{stands, within_less}
use Rattle.steady_schedule.proofs.changing.stand_in.Goals as goal

pub loop-place-init : goal.loop-place-init
loop-place-init c = λ others are. refl

pub returns-then-ne : goal.returns-then-ne
returns-then-ne c = λ others are.
    let batch = c.args.graph.now in
    let setting = c.args.setting.now in
    let place = c.loop-place.place in
    let t_in = c.requires.known place 0 c.loop-place-test.true in
    let e = has_ends batch (get_or setting place 0) c.ends_of.result c.requires.batch t_in c.ends_of.ensures in
    let not_there : are_partners others e.x.initiator e.x.responder ≡ false = stands others c.args.joined.now e.x c.ends_of.result.0.«module»
    c.ends_of.result.1.«module» c.ne.result are e.start e.answer c.ne.ensures ∙ ap not c.if-ne.true in
    sym (c.loop-place.invariant others are ∙ (within_less batch others setting place e.x c.loop-place-test.true e.here ∙ (rw not_there refl)))

pub loop-place-preserved : goal.loop-place-preserved
loop-place-preserved c = λ others are.
    let batch = c.args.graph.now in
    let setting = c.args.setting.now in
    let place = c.loop-place.place in
    let t_in = c.requires.known place 0 c.loop-place-test.true in
    let e = has_ends batch (get_or setting place 0) c.ends_of.result c.requires.batch t_in c.ends_of.ensures in
    let there : are_partners others e.x.initiator e.x.responder ≡ true = stands others c.args.joined.now e.x c.ends_of.result.0.«module»
    c.ends_of.result.1.«module» c.ne.result are e.start e.answer c.ne.ensures ∙ ap not c.if-ne.false in
    c.loop-place.invariant others are ∙ (within_less batch others setting place e.x c.loop-place-test.true e.here ∙ (rw there refl))

pub returns : goal.returns
returns c = λ others are.
    let none = drop_all c.loop-place.place c.args.setting.now (omega arith) in
    sym (c.loop-place.invariant others are ∙ (rw none refl))
