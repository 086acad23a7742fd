use Rattle.std.proofs.Common.{◌≡◌, ◌+◌, ◌++◌, ◌∷◌, [], List, sym, ap, ◌∙◌, append_assoc, get_or, take}
use Rattle.std.proofs.lemmas.List.{take_more, map-append}
use Rattle.batch.specs.Overlap.{destination_at}
use Rattle.batch.specs.Places.{destination_of}
use Rattle.batch.specs.declared.transfer.Place.{Place}
use Rattle.module_memory.specs.Bays.{destinations_of}
use Rattle.setting_runner.proofs.ready.push_destinations.Goals as goal

pub loop-t-preserved : goal.loop-t-preserved
loop-t-preserved c =
    let i = c.loop-t.t-index in
    let t = get_or c.args.numbers.now i 0 in
    let more : destinations_of c.args.batch.now (take (i + 1) c.args.numbers.now) ≡ destinations_of c.args.batch.now (take i c.args.numbers.now)
    ++ destination_at c.args.batch.now t ∷ [] =
    ap (destinations_of c.args.batch.now) (take_more c.args.numbers.now i 0 c.loop-t-test.true) ∙ map-append (destination_at c.args.batch.now)
    (take i c.args.numbers.now) (t ∷ []) in
    c.in_ok-push.ensures.items ∙ ap (λ (p : Place). c.loop-t.places.items ++ p ∷ []) (c.destination.ensures ∙ ap destination_of c.transfer_of.ensures)
    ∙ ap (λ (ps : List Place). ps ++ destination_at c.args.batch.now t ∷ []) c.loop-t.invariant
    ∙ append_assoc c.args.places.now.items (destinations_of c.args.batch.now (take i c.args.numbers.now)) (destination_at c.args.batch.now t ∷ [])
    ∙ ap (λ (ps : List Place). c.args.places.now.items ++ ps) (sym more)
