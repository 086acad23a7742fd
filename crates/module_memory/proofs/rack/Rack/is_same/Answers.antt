use Rattle.std.proofs.Common.{ℕ, ◌≡◌, ◌*◌, List, [], length, get_or, sym, ap, ◌∙◌, arith, rules}
use Rattle.std.proofs.lemmas.List.{ext_get_or}
use Rattle.batch.specs.ShapeView.{ShapeView}
use Rattle.module_memory.proofs.Blocks.{store_from_parts}
use Rattle.module_memory.proofs.rack.Rack.is_same.Goals as goal

pub returns-clause-same : goal.returns-clause-same
returns-clause-same c _ =
    let a = c.self.inside in
    let b = c.other.inside in
    let shape : a.shape ≡ b.shape = search rules in
    let count : length a.blocks.items ≡ length b.blocks.items =
    c.self.invariant.all_blocks ∙ ap (λ (x : ShapeView). x.modules * x.blocks) shape ∙ sym c.other.invariant.all_blocks in
    let read = c.deref-block-items.ensures.value in
    let blocks : a.blocks.items ≡ b.blocks.items = ext_get_or [] a.blocks.items b.blocks.items count (λ k l.
    ap (λ (xs : List (List ℕ)). get_or xs k []) (sym read) ∙ c.loop-i.invariant k (omega (arith, ap (λ (xs : List (List ℕ)). length xs) read))) in
    sym c.self.view_is ∙ store_from_parts _ _ shape blocks ∙ c.other.view_is
