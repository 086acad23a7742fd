use Rattle.std.proofs.Common.{◌<◌, ◌++◌, ℕ, List, length, take, arith, sym, ap, ◌∙◌}
use Rattle.std.specs.List.{concat}
use Rattle.std.proofs.lemmas.List.{map-append}
use Rattle.batch.specs.Overlap.{destination_at}
use Rattle.batch.specs.declared.transfer.Place.{Place}
use Rattle.module_memory.specs.Bays.{destinations_of}
use Rattle.switch_settings.specs.Settings.{numbers_in}
use Rattle.batch.proofs.Lists.{concat_more}
use Rattle.setting_runner.proofs.ready.destinations.Goals as goal

pub numbers_of_setting-requires-clause-within : goal.numbers_of_setting-requires-clause-within
numbers_of_setting-requires-clause-within c = omega (arith, c.settings-k-end.ensures)

pub loop-k-preserved : goal.loop-k-preserved
loop-k-preserved c =
    let k = c.loop-k.k in
    let batch = c.args.batch.now in
    let settings = c.args.schedule.now in
    let numbers = c.numbers_of_setting.result.now in
    let below : k < length settings = omega (arith, c.settings-k-end.ensures) in
    c.in_ok-push_destinations.ensures.places
    ∙ ap (λ (ps : List Place). ps ++ destinations_of batch numbers) c.loop-k.invariant
    ∙ ap (λ (x : List ℕ). destinations_of batch (concat (take k settings)) ++ destinations_of batch x) c.numbers_of_setting.ensures.numbers
    ∙ sym (map-append (destination_at batch) (concat (take k settings)) (numbers_in settings k))
    ∙ ap (destinations_of batch) (sym (concat_more settings k below))
