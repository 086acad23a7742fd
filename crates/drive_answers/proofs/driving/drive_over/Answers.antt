use Rattle.std.proofs.Common.{ℕ, ◌≡◌, ◌≢◌, ◌∙◌, inl, inr, refl, sym, subst}
use Rattle.std.proofs.lemmas.Result.{IfOk-weaker}
use Rattle.refusals.specs.declared.refusal.Refusal.TheVariants.{Ports}
use Rattle.plan_answers.specs.Refusals.{Refuses}
use Rattle.drive_answers.specs.Answers.{driven, switches_in, unopened}
use Rattle.drive_answers.specs.Ways.{IsUnopened, how_many, names_of}
use Rattle.drive_answers.specs.declared.drive_end.DriveEnd.{DriveEnd}
use Rattle.drive_answers.proofs.Over.{driven_over}
use Rattle.drive_answers.proofs.driving.drive_over.Goals as goal

pub returns-in-Ok-ending-clause-answer : goal.returns-in-Ok-ending-clause-answer
returns-in-Ok-ending-clause-answer g c =
    let rack = c.args.rack in
    let batch = c.args.batch.now in
    let settings = c.args.schedule.now in
    let names = names_of c.args.names in
    let how = c.drive-how.result in
    let was = g.Q.Ports.ways c.args.ports.now in
    let opens = g.Q.Ports.ways c.close.new.self in
    let over = driven_over g.S.DriveObserver.hears g.Q.Port.ConfigPort rack batch settings c.args.first how names was _ opens _ _ c.args.stage.now
    c.drive-how.new.stage c.in-Ok.ensures.opened c.close.ensures c.in-Ok.ensures.fresh c.in-Ok.ensures.unfailed c.drive-how.ensures.driven
    c.drive-how.ensures.cause in
    let many : how_many names ≡ switches_in rack = sym c.count.ensures ∙ c.if-count-switches.false ∙ c.switches_of-switches.ensures.value in
    driven how many over c.in-Ok-ending.ensures.told

pub returns-then-count-switches-clause-answer : goal.returns-then-count-switches-clause-answer
returns-then-count-switches-clause-answer g c =
    let names = names_of c.args.names in
    let n = c.switches_of-switches.result in
    let other : how_many names ≢ switches_in c.args.rack =
    λ same. c.if-count-switches.true (c.count.ensures ∙ same ∙ sym c.switches_of-switches.ensures.value) in
    let is = subst (λ (m : ℕ). IsUnopened names (switches_in c.args.rack) (Ports m)) (sym c.switches_of-switches.ensures.value) (inl (other, refl)) in
    IfOk-weaker c.refused.result (λ (end : DriveEnd). Refuses (Ports n) end.answer) _ (λ end refuses. unopened (Ports n) is refuses refl refl)
    c.refused.ensures.refused

pub returns-in-Err-clause-answer : goal.returns-in-Err-clause-answer
returns-in-Err-clause-answer g c =
    let names = names_of c.args.names in
    let why = c.in-Err.why in
    let many : how_many names ≡ switches_in c.args.rack = sym c.count.ensures ∙ c.if-count-switches.false ∙ c.switches_of-switches.ensures.value in
    IfOk-weaker c.refused-in-Err.result (λ (end : DriveEnd). Refuses why end.answer) _
    (λ end refuses. unopened why (inr (many, c.in-Err.ensures.refused refuses.0)) refuses refl c.in-Err.ensures.unopened) c.refused-in-Err.ensures.refused
