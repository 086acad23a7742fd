use Rattle.std.proofs.Common.{ℕ, ◌≡◌, ◌<◌, ◌^◌, ◌+◌, ◌*◌, ◌/◌, ◌%◌, List, [], length, get_or, set, ap, ◌∙◌, sym, subst, arith, get_or-set_same, get_or-set_other, inl, inr}
use Rattle.std.proofs.lemmas.Bool.{cases_eq}
use Rattle.std.specs.List.{range_with_len}
use Rattle.std.proofs.lemmas.Nat.{div-mul-add, mod-mul-add, div_below, mod_below}
use Rattle.batch.specs.ShapeView.{ShapeView, IsShape}
use Rattle.batch.specs.Places.{place_index}
use Rattle.module_memory.specs.Store.{Store}
use Rattle.batch.specs.declared.limits.TheConstants.{MAX_WORDS}
use Rattle.module_memory.specs.declared.rack.TheConstants.{MODULE_MARK, BLOCK_MARK}
use Rattle.module_memory.specs.Mark.{first_mark, IsMarked}
use Rattle.module_memory.specs.Laws.{OneMarked}
use Rattle.batch.proofs.Places.{place_index_below}
use Rattle.module_memory.proofs.Blocks.{block_at, same_store}

-- the first word of the block at an index
abbrev pub mark_at : ℕ → ℕ → ℕ
mark_at blocks k = MODULE_MARK * (k / blocks) + BLOCK_MARK * (k % blocks)

pub mark_at_small : (s : ShapeView) (k : ℕ) → IsShape s → k < s.modules * s.blocks → mark_at s.blocks k + MAX_WORDS < 2 ^ 32
mark_at_small s k h l =
    omega (arith, div_below k s.blocks s.modules (omega arith) l, mod_below k s.blocks (omega arith))

pub IsMarked-from_indices : (old new : Store) → new.shape ≡ old.shape → length new.blocks ≡ length old.blocks → length old.blocks
    ≡ old.shape.modules * old.shape.blocks
    → ((k : ℕ) → k < length old.blocks → get_or new.blocks k [] ≡ range_with_len (mark_at old.shape.blocks k) old.shape.words) → IsMarked old new
IsMarked-from_indices old new e l all h = record {
  same_shape = e;
  same_length = l;
  words = λ p hp.
      let k = place_index old.shape p in
      let row : k / old.shape.blocks ≡ p.«module» = div-mul-add p.«module» old.shape.blocks p.block hp.in_blocks in
      let column : k % old.shape.blocks ≡ p.block = mod-mul-add p.«module» old.shape.blocks p.block hp.in_blocks in
      let first : mark_at old.shape.blocks k ≡ first_mark p = omega (arith, row, column) in
      block_at new old.shape p k e (λ i. k) ∙ h k (omega (arith, place_index_below old.shape p hp)) ∙ ap (λ (x : ℕ). range_with_len x old.shape.words) first;
}

-- the blocks below an index are marked, a step on
pub marked_more : (f : ℕ → List ℕ) (xs : List (List ℕ)) (i : ℕ) (ws : List ℕ) → i < length xs → ws ≡ f i → ((k : ℕ) → k < i → get_or xs k [] ≡ f k) → (k : ℕ)
    → k < i + 1 → get_or (set xs i ws) k [] ≡ f k
marked_more f xs i ws l e h k m =
    elim (cases_eq k i) [
      | inl g ↦ subst (λ (x : ℕ). get_or (set xs i ws) x [] ≡ f x) (sym g) (get_or-set_same xs i ws [] l ∙ e)
      | inr n ↦ get_or-set_other xs i k ws [] n ∙ h k (omega arith)
    ]

pub one_marked : OneMarked
one_marked old a b all ha hb =
    same_store old a b all ha.same_shape hb.same_shape ha.same_length hb.same_length (λ p hp. ha.words p hp ∙ sym (hb.words p hp))
