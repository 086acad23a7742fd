use Rattle.std.proofs.lemmas.Grind.{common_steps}
use Rattle.std.proofs.Common.{ℕ, ◌<◌, List, [], length, ap, ◌∙◌, arith}
use Rattle.std.proofs.lemmas.List.{get_or_read}
use Rattle.std.proofs.Math.ListN.{length-set}
use Rattle.module_memory.proofs.Blocks.{IsWhole-set}
use Rattle.module_memory.proofs.rack.Rack.write.Goals as goal

pub set-requires : goal.set-requires
set-requires c =
    let xs = c.self.inside.blocks.items in
    let k = c.block_index-index.result in
    let below : k < length xs = omega (arith, c.block_index-index.ensures.below, c.self.invariant.all_blocks) in
    let long = ap (λ (x : List ℕ). length x) (get_or_read xs k c.index_mut-block.result.now below c.index_mut-block.ensures.value [])
    ∙ c.self.invariant.all_words k below in
    omega (arith, long, c.in_ok-site.ensures.within)

pub returns : goal.returns
returns c = grind (arith, common_steps)

pub invariant_of-self : goal.invariant_of-self
invariant_of-self c =
    let xs = c.self.inside.blocks.items in
    let k = c.block_index-index.result in
    let block = c.index_mut-block.result.now in
    let below : k < length xs = omega (arith, c.block_index-index.ensures.below, c.self.invariant.all_blocks) in
    let long = ap (λ (x : List ℕ). length x) (get_or_read xs k block below c.index_mut-block.ensures.value []) ∙ c.self.invariant.all_words k below in
    let full = ap (λ (x : List ℕ). length x) c.set.ensures ∙ length-set block c.in_ok-site.site.word c.args.word ∙ long in
    IsWhole-set (record { shape = c.self.inside.shape; blocks = xs }) k c.set.new.self c.self.invariant full
