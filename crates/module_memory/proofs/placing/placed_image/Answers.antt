use Rattle.std.proofs.Common.{◌≡◌, ◌<◌, ◌*◌, ◌++◌, ◌+◌, ◌-◌, List, ℕ, get_or, take, drop, sym, ap, ◌∙◌, arith, rules, subst}
use Rattle.std.specs.Prelude.{All}
use Rattle.std.specs.List.{flat_map}
use Rattle.std.proofs.lemmas.List.{take_all}
use Rattle.module_memory.specs.Images.{bytes_of_block}
use Rattle.module_memory.specs.Placing.{AreSources}
use Rattle.module_memory.proofs.PlacedImages.{block_ends, is_placed_image, more_placed, placed_blocks}
use Rattle.module_memory.proofs.placing.placed_image.Goals as goal

pub slice_bounds-extend_from_slice-end : goal.slice_bounds-extend_from_slice-end
slice_bounds-extend_from_slice-end c =
    let shape = c.args.shape in
    let sources = c.deref-source-items.result.now in
    let i = c.loop-source.source-index in
    let known = subst (λ (xs : List ℕ). All (λ k. k < shape.modules * shape.blocks) xs) (sym c.deref-source-items.ensures.value)
    c.in_ok-sources.ensures.known in
    let start : 4 * c.words.result * get_or sources i 0 ≡ 4 * shape.words * get_or sources i 0 = ap (λ (w : ℕ). 4 * w * get_or sources i 0)
    c.words.ensures.value in
    omega (arith, block_ends shape c.args.image.now sources i c.requires.whole known c.loop-source-test.true, start, c.words.ensures.value)

pub loop-source-preserved : goal.loop-source-preserved
loop-source-preserved c =
    let shape = c.args.shape in
    let image = c.args.image.now in
    let sources = c.deref-source-items.result.now in
    let i = c.loop-source.source-index in
    let known = subst (λ (xs : List ℕ). All (λ k. k < shape.modules * shape.blocks) xs) (sym c.deref-source-items.ensures.value)
    c.in_ok-sources.ensures.known in
    let size = 4 * c.words.result in
    let from = size * get_or sources i 0 in
    let pushed : c.extend_from_slice.new.self.items ≡ c.loop-source.placed.items ++ take (from + size - from) (drop from image) = search rules in
    let same : from + size - from ≡ 4 * shape.words = omega (arith, c.words.ensures.value) in
    pushed
    ∙ ap (λ (n : ℕ). c.loop-source.placed.items ++ take n (drop from image)) same
    ∙ more_placed shape image sources i from c.loop-source.placed.items c.requires.whole (λ j. omega (arith, c.type_inv.image j)) known c.loop-source-test.true
    (ap (λ (w : ℕ). 4 * w * get_or sources i 0) c.words.ensures.value) c.loop-source.invariant

pub returns : goal.returns
returns c =
    let sources = c.deref-source-items.result.now in
    let same : sources ≡ c.in_ok-sources.sources.items = c.deref-source-items.ensures.value in
    let are : AreSources c.args.shape c.args.batch.now sources = subst (AreSources c.args.shape c.args.batch.now) (sym same) c.in_ok-sources.ensures in
    is_placed_image c.args.shape c.args.image.now c.args.batch.now sources c.loop-source.placed.items c.words.ensures.shape c.requires.whole
    (λ i. omega (arith, c.type_inv.image i)) c.requires.fits are
    (c.loop-source.invariant ∙ ap (λ (xs : List ℕ). flat_map bytes_of_block (placed_blocks c.args.shape c.args.image.now xs))
    (take_all c.loop-source.source-index sources c.loop-source-test.false))
