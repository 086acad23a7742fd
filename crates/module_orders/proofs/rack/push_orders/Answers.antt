use Rattle.std.proofs.Common.{◌≡◌, Bool, ◌<◌, ◌++◌, ◌∷◌, [], ◌∙◌, ap, refl, rules, get_or, length-set, take, ℕ}
use Rattle.std.proofs.lemmas.List.{take_all}
use Rattle.batch.specs.Overlap.{transfer_at}
use Rattle.batch.specs.Places.{source_of}
use Rattle.batch.specs.Written.{flag_of}
use Rattle.batch.specs.declared.limits.TheConstants.{MAX_MODULES}
use Rattle.batch.specs.declared.transfer.Transfer.{Transfer}
use Rattle.link_graph.specs.Counts.{module_at}
use Rattle.module_orders.specs.Orders.{module_told, order_at}
use Rattle.module_orders.proofs.Telling.{told_more}
use Rattle.module_orders.proofs.rack.push_orders.Goals as goal

pub loop-t-preserved : goal.loop-t-preserved
loop-t-preserved c =
    let now = c.loop-t in
    let i = now.t-index in
    let batch = c.args.batch.now in
    let numbers = c.args.numbers.now in
    let end = c.args.end in
    let changed = flag_of c.args.changed.now.flags in
    let t = c.transfer_of-transfer.result in
    let o = c.order_at-order.result in
    let at = c.module_of.result in
    let n : ℕ = get_or numbers i 0 in
    let is_t : t ≡ transfer_at batch n = c.transfer_of-transfer.ensures in
    let low : at < MAX_MODULES = search rules in
    let order : o ≡ order_at (changed (source_of (transfer_at batch n))) c.args.setting end (transfer_at batch n) =
    c.order_at-order.ensures
    ∙ ap (λ (b : Bool). order_at b c.args.setting end t) (c.has-late.ensures ∙ ap changed c.source.ensures)
    ∙ ap (λ (x : Transfer). order_at (changed (source_of x)) c.args.setting end x) is_t in
    let was : c.index_mut.result.now ≡ get_or now.modules.items at c.index_mut.result.now = c.index_mut.ensures.value in
    let pushed : c.push.new.self ≡ module_told c.index_mut.result.now.«module» (c.index_mut.result.now.orders ++ o ∷ []) = c.in_ok-push.ensures in
    record {
      all = length-set now.modules.items at c.push.new.self ∙ now.invariant.all;
      told = λ f are. told_more changed c.args.setting end batch numbers i n f now.modules.items at o c.index_mut.result.now c.push.new.self c.loop-t-test.true
          refl (c.module_of.ensures ∙ ap (module_at end) is_t) order low was pushed (now.invariant.told f are);
    }

pub returns : goal.returns
returns c =
    let all : take c.loop-t.t-index c.args.numbers.now ≡ c.args.numbers.now = take_all c.loop-t.t-index c.args.numbers.now c.loop-t-test.false in
    rw all at c.loop-t.invariant.told
