use Rattle.std.proofs.Common.{ℕ, ◌≡◌, ◌<◌, List, [], length, ap, ap₂, ◌∙◌, subst, arith, length-set}
use Rattle.batch.specs.ShapeView.{ShapeView}
use Rattle.std.specs.List.{range_with_len}
use Rattle.std.proofs.lemmas.List.{get_or_read}
use Rattle.std.proofs.lemmas.List.FromFn.{length-range_with_len}
use Rattle.module_memory.specs.Store.{IsWhole}
use Rattle.module_memory.proofs.Marking.{mark_at, mark_at_small, IsMarked-from_indices, marked_more}
use Rattle.module_memory.proofs.Blocks.{IsWhole-set}
use Rattle.module_memory.proofs.rack.Rack.mark.Goals as goal

pub count_from-requires : goal.count_from-requires
count_from-requires c =
    let whole : IsWhole c.args.self.now = subst IsWhole c.self.view_is c.self.invariant in
    let inv = c.loop-index.invariant in
    let xs = c.loop-index.self-inside.blocks.items in
    let i = c.loop-index.index in
    let block = c.index_mut-block.result.now in
    let below : i < length xs = omega arith in
    let long = ap (λ (x : List ℕ). length x) (get_or_read xs i block below c.index_mut-block.ensures.value []) ∙ inv.whole.all_words i below in
    let first = ap (λ (b : ℕ). mark_at b i) inv.width in
    let small = mark_at_small c.args.self.now.shape i whole.within (omega (arith, whole.all_blocks)) in
    let most = inv.whole.within.few_words in
    omega (arith, long, first, small, most)

pub loop-index-preserved : goal.loop-index-preserved
loop-index-preserved c =
    let inv = c.loop-index.invariant in
    let now = c.loop-index.self-inside in
    let xs = now.blocks.items in
    let i = c.loop-index.index in
    let block = c.index_mut-block.result.now in
    let below : i < length xs = omega arith in
    let long : length block ≡ now.shape.words = ap (λ (x : List ℕ). length x) (get_or_read xs i block below c.index_mut-block.ensures.value [])
    ∙ inv.whole.all_words i below in
    let ws = c.count_from.new.self in
    let full = ap (λ (x : List ℕ). length x) c.count_from.ensures ∙ (length-range_with_len _ (length block) ∙ long) in
    record {
      shape = inv.shape;
      count = length-set xs i ws ∙ inv.count;
      end = inv.end;
      width = inv.width;
      whole = IsWhole-set (record { shape = now.shape; blocks = xs }) i ws inv.whole full;
      done = marked_more (λ (k : ℕ). range_with_len (mark_at c.args.self.now.shape.blocks k) c.args.self.now.shape.words) xs i ws below
          (c.count_from.ensures ∙ ap₂ (λ (x y : ℕ). range_with_len x y) (ap (λ (b : ℕ). mark_at b i) inv.width)
          (long ∙ ap (λ (s : ShapeView). s.words) inv.shape))
          inv.done;
    }

pub returns : goal.returns
returns c =
    let whole : IsWhole c.args.self.now = subst IsWhole c.self.view_is c.self.invariant in
    let inv = c.loop-index.invariant in
    let now = c.loop-index.self-inside in
    IsMarked-from_indices c.args.self.now (record { shape = now.shape; blocks = now.blocks.items }) inv.shape inv.count whole.all_blocks
    (λ k l. inv.done k (omega arith))
