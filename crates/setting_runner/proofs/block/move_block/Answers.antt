use Rattle.std.proofs.Common.{subst, sym}
use Rattle.batch.specs.Places.{source_of}
use Rattle.batch.specs.declared.transfer.Kind.{Kind}
use Rattle.batch.specs.declared.transfer.Place.{Place}
use Rattle.module_memory.specs.Lending.{found_in}
use Rattle.setting_runner.specs.Carried.{HasCarried, pushed, sent, window_of}
use Rattle.setting_runner.proofs.block.move_block.Goals as goal

pub returns-in-Push-clause-carried : goal.returns-in-Push-clause-carried
returns-in-Push-clause-carried g c =
    let rest = c.args.rest.now in
    let shape = rest.store.shape in
    let source = source_of c.args.transfer in
    let block = c.args.bay.now.place.block in
    let old = g.W.Wire.carried c.args.wire.now in
    let new = g.W.Wire.carried c.push_block.new.wire in
    subst (λ (k : Kind). HasCarried (sent k (window_of rest source) shape block source.block (found_in rest source)) shape.words c.push_block.result old new)
    (sym c.in-Push.is)
    (subst (λ (p : Place). HasCarried (pushed shape block (found_in rest p)) shape.words c.push_block.result old new) c.source.ensures
    c.push_block.ensures.carried)
