use Rattle.std.proofs.Common.{◌≡◌, ◌≢◌, ◌+◌, ◌∷◌, [], ◌++◌, true, Bool, List, ap, ◌∙◌, sym, arith, take, get_or, set, length, length-set, rules, refl, subst}
use Rattle.batch.specs.ShapeView.{widest}
use Rattle.batch.specs.Places.{HasPlace, place_index, source_of, destination_of}
use Rattle.batch.specs.declared.transfer.Transfer.{Transfer}
use Rattle.module_memory.specs.Core.{setting_of}
use Rattle.module_orders.specs.Flags.{AreChanged}
use Rattle.module_orders.specs.declared.changed.ChangedBlocks.{ChangedBlocks}
use Rattle.module_orders.proofs.Changing.{changed_more, changed_skip, then_one, told_apart, told_same}
use Rattle.module_orders.proofs.Telling.{setting_of-more}
use Rattle.module_orders.proofs.changed.ChangedBlocks.add.Goals.{then-ne, else-ne}
use Rattle.module_orders.proofs.changed.ChangedBlocks.add.Goals as goal

pub loop-t-preserved : goal.loop-t-preserved
loop-t-preserved c =
    let now = c.loop-t in
    let i = now.t-index in
    let batch = c.args.batch.now in
    let numbers = c.args.numbers.now in
    let t = c.transfer_of-transfer.result in
    let ts : List Transfer = setting_of batch (take i numbers) in
    let all : List Transfer = setting_of batch (take (i + 1) numbers) in
    let one : all ≡ ts ++ t ∷ [] = setting_of-more batch numbers i (get_or numbers i 0) c.loop-t-test.true refl ∙ ap (λ (x : Transfer). ts ++ x ∷ [])
    (sym c.transfer_of-transfer.ensures) in
    let to : c.destination-destination.result ≡ destination_of t = c.destination-destination.ensures in
    let from : c.source.result ≡ source_of t = c.source.ensures in
    elim c.if-ne.branch [
      | then-ne w ↦
          let at = w.widest_index.result in
          let apart : source_of t ≢ destination_of t = λ e. told_apart c.source.result c.destination-destination.result c.ne.result c.ne.ensures w.if-ne.true
          (from ∙ e ∙ sym to) in
          let there : HasPlace widest (destination_of t) = search rules in
          let flags : c.if-ne.self.flags ≡ set now.self.flags at true = ap (λ (x : ChangedBlocks). x.flags) w.self-is in
          record {
            size = ap (length {A = Bool}) flags ∙ length-set now.self.flags at true ∙ now.invariant.size;
            changed = λ before h. then_one before ts all t c.if-ne.self.flags one (subst (AreChanged ((before ++ ts) ++ t ∷ [])) (sym flags)
                (changed_more (before ++ ts) t now.self.flags at (w.widest_index.ensures.value ∙ ap (place_index widest) to) there apart
                (omega (arith, now.invariant.size, w.widest_index.ensures.below)) (now.invariant.changed before h)));
          }
      | else-ne w ↦
          let same : source_of t ≡ destination_of t = sym from ∙ told_same c.source.result c.destination-destination.result c.ne.result c.ne.ensures
          w.if-ne.false ∙ to in
          let flags : c.if-ne.self.flags ≡ now.self.flags = ap (λ (x : ChangedBlocks). x.flags) w.self-is in
          record {
            size = ap (length {A = Bool}) flags ∙ now.invariant.size;
            changed = λ before h. then_one before ts all t c.if-ne.self.flags one
                (subst (AreChanged ((before ++ ts) ++ t ∷ [])) (sym flags)
                (changed_skip (before ++ ts) t now.self.flags same (now.invariant.changed before h)));
          }
    ]
