use Rattle.std.proofs.Common.{ℕ, ◌≡◌, ◌<◌, ◌+◌, List, [], length, get_or, set, refl, sym, ap, ◌∙◌, subst, arith, rules}
use Rattle.std.proofs.lemmas.List.{get_or_default}
use Rattle.batch.specs.Places.{place_index}
use Rattle.batch.proofs.Places.{place_index_below}
use Rattle.module_memory.specs.Store.{IsWhole, block_of}
use Rattle.module_memory.specs.Lending.{place_in}
use Rattle.module_memory.proofs.Copies.{AreCopiesUpTo, copies_more, copies_all, copies_whole}
use Rattle.module_memory.proofs.rack.Rack.copies.Goals as goal

pub loop-place-preserved : goal.loop-place-preserved
loop-place-preserved c =
    let s = c.args.self.now in
    let held = c.args.held.now in
    let now = c.loop-place in
    let i = now.place-index in
    let index = c.block_index-index.result in
    let p = place_in held i in
    let below : i < length held = omega arith in
    let whole : IsWhole s = subst IsWhole c.self.view_is c.self.invariant in
    let at : index ≡ place_index s.shape p = search rules in
    let there : c.index-block.result.now ≡ get_or s.blocks index c.index-block.result.now = search rules in
    let first : c.in_ok-copy.copy ≡ c.index-block.result.now = search rules in
    let copy : c.in_ok-copy.copy ≡ block_of s p = first ∙ there ∙ get_or_default s.blocks index _ []
    (omega (arith, at, whole.all_blocks, place_index_below s.shape p (c.requires i below))) ∙ ap (λ (x : ℕ). get_or s.blocks x []) at in
    subst (λ (ws : List ℕ). AreCopiesUpTo s held (i + 1) (set now.copies.items index ws)) (sym copy)
    (copies_more s held i index now.copies.items whole p refl (c.requires i below) (λ k l. c.requires k (omega arith)) at now.invariant)

pub returns-clause-copies : goal.returns-clause-copies
returns-clause-copies c = copies_all c.args.self.now c.args.held.now c.loop-place.place-index c.loop-place.copies.items (omega arith) c.loop-place.invariant

pub returns-clause-whole : goal.returns-clause-whole
returns-clause-whole c =
    let whole : IsWhole c.args.self.now = subst IsWhole c.self.view_is c.self.invariant in
    copies_whole c.args.self.now c.args.held.now c.loop-place.copies.items whole
    (copies_all c.args.self.now c.args.held.now c.loop-place.place-index c.loop-place.copies.items (omega arith) c.loop-place.invariant)
