use Rattle.std.proofs.Common.{rules, ◌≡◌, ℕ, List, Some, sym, ap, ap₂, ◌∙◌}
use Rattle.batch.specs.declared.transfer.Transfer.{Transfer}
use Rattle.std.specs.Option.{unwrap_or, option_copied}
use Rattle.batch_book.specs.BatchStore.{no_store}
use Rattle.batch_book.specs.Machine.{batch_of}
use Rattle.batch_book.specs.Running.{plan_at, plan_in}
use Rattle.setting_runner.specs.Plants.{LeavesPlant}
use Rattle.setting_runner.specs.Runs.{TellsOutcome}
use Rattle.batch_book.proofs.Runs.{AreRefusals, worded, ended, ran_step, as_told, refused_so}
use Rattle.batch_book.proofs.batch_store.BatchStore.run.Goals as goal

pub returns-clause-step : goal.returns-clause-step
returns-clause-step g c =
    let own : batch_of c.args.self.now c.args.session c.args.id ≡ Some c.in-Some.found.now =
    rw (← c.self.view_is) (sym c.owned_by.ensures ∙ ap option_copied c.in-Some.is) in
    let same : c.args.self.now.store ≡ c.in-Some-take.rack =
    rw (← c.self.view_is) (ap (λ r. unwrap_or r no_store) (sym c.take.ensures.value ∙ c.in-Some-take.is)) in
    let plan = c.in-Planned.planned in
    let batch : plan.batch ≡ c.batch-batch.result.now = sym c.batch-batch.ensures.batch in
    let settings : plan.settings ≡ c.schedule-schedule.result.now = sym c.schedule-schedule.ensures.schedule in
    let refusals : AreRefusals c.args.self.now.store.shape plan.batch c.run-rack.result.1 =
    rw (same, batch) (record { overlap = c.run-rack.ensures.overlap; shape = c.run-rack.ensures.shape; free = c.run-rack.ensures.free }) in
    ran_step c.args.self.now c.args.session c.args.id c.in-Some.found.now c.in-Planned.planned c.end.result c.end.new.self own c.in-Planned.is
    (ended c.args.self.now c.run-rack.result.0 c.args.id c.in-Planned.planned c.run-rack.result.1 c.end.result c.end.new.self refusals
    (rw (same, batch, settings) c.run-rack.ensures.memories) (rw (← c.self.view_is) c.end.ensures))

pub returns-in-Waiting-clause-step : goal.returns-in-Waiting-clause-step
returns-in-Waiting-clause-step g c = search rules

pub returns-clause-plant : goal.returns-clause-plant
returns-clause-plant g c =
    let own : batch_of c.args.self.now c.args.session c.args.id ≡ Some c.in-Some.found.now =
    rw (← c.self.view_is) (sym c.owned_by.ensures ∙ ap option_copied c.in-Some.is) in
    let same : c.args.self.now.store ≡ c.in-Some-take.rack =
    rw (← c.self.view_is) (ap (λ r. unwrap_or r no_store) (sym c.take.ensures.value ∙ c.in-Some-take.is)) in
    let ran : plan_in (batch_of c.args.self.now c.args.session c.args.id) ≡ Some (c.batch-batch.result.now, c.schedule-schedule.result.now) =
    ap plan_in own ∙ ap plan_at c.in-Planned.is ∙ ap₂ (λ (ts : List Transfer) (xs : List (List ℕ)). Some (ts, xs)) (sym c.batch-batch.ensures.batch)
    (sym c.schedule-schedule.ensures.schedule) in
    let seen = g.P.ConfigPort in
    let sure = g.W.WireMaker.is_sure in
    let old = c.args.plant.now in
    let new = c.run-rack.new.plant in
    as_told (λ o. LeavesPlant seen sure c.args.self.now.store.shape (plan_in (batch_of c.args.self.now c.args.session c.args.id)) o old new)
    (worded c.args.self.now c.run-rack.result.0) c.args.id c.run-rack.result.1 c.end.result c.end.new.self
    (refused_so seen sure c.args.self.now.store.shape (plan_in (batch_of c.args.self.now c.args.session c.args.id)) old new)
    (rw (← c.self.view_is) c.end.ensures) (rw ran (rw same c.run-rack.ensures.plant))

pub returns-clause-told : goal.returns-clause-told
returns-clause-told g c = as_told (λ o. TellsOutcome g.N.Notice.hears c.args.notice.now o c.run-rack.new.notice) (worded c.args.self.now c.run-rack.result.0)
    c.args.id c.run-rack.result.1 c.end.result c.end.new.self (λ why other same. same) (rw (← c.self.view_is) c.end.ensures) c.run-rack.ensures.told
