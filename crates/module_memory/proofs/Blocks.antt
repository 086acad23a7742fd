-- The blocks of a store, one by one.
use Rattle.std.proofs.Common.{set, length-set, arith, inl, inr, ◌⊎◌, ℕ, ◌≡◌, ◌≢◌, ◌<◌, List, [], length, get_or, sym, ap, ap₂, ◌∙◌, subst, get_or-set_same, get_or-set_other}
use Rattle.batch.specs.ShapeView.{ShapeView}
use Rattle.batch.specs.declared.transfer.Place.{Place}
use Rattle.batch.specs.Places.{HasPlace, place_index}
use Rattle.std.proofs.lemmas.Bool.{cases_eq}
use Rattle.std.proofs.lemmas.List.{ext_get_or}
use Rattle.batch.proofs.Places.{place_from_parts, same_place_from_index, place_index_below, place_at, place_index-place_at, HasPlace-place_at}
use Rattle.module_memory.specs.Store.{Store, HasAllBlocks, IsWhole, block_of, set_block}

-- a block after a write
pub block_of-set_same : (s : Store) (p : Place) (ws : List ℕ) → place_index s.shape p < length s.blocks → block_of (set_block s p ws) p ≡ ws
block_of-set_same s p ws h = get_or-set_same s.blocks (place_index s.shape p) ws [] h

pub block_of-set_other : (s : Store) (p q : Place) (ws : List ℕ) → HasPlace s.shape p → HasPlace s.shape q → q ≢ p → block_of (set_block s p ws) q
    ≡ block_of s q
block_of-set_other s p q ws hp hq n =
    get_or-set_other s.blocks (place_index s.shape p) (place_index s.shape q) ws [] (λ e. n (same_place_from_index s.shape q p hq hp e))

-- the block of a place, by its index
pub block_at : (s : Store) (x : ShapeView) (p : Place) (k : ℕ) → s.shape ≡ x → place_index x p ≡ k → block_of s p ≡ get_or s.blocks k []
block_at s x p k e f =
    let at : ℕ → List ℕ = λ n. get_or s.blocks n [] in
    ap at (ap (λ (y : ShapeView). place_index y p) e ∙ f)

pub store_from_parts : (a b : Store) → a.shape ≡ b.shape → a.blocks ≡ b.blocks → a ≡ b
store_from_parts a b e f =
    let make : ShapeView → List (List ℕ) → Store = λ x y. record { shape = x; blocks = y } in ap₂ make e f

-- two stores of one shape are one where all their blocks are
-- a whole store has all its blocks
pub all_blocks : (s : Store) → IsWhole s → HasAllBlocks s
all_blocks s whole = (whole.within, whole.all_blocks)

pub same_store : (old a b : Store) → HasAllBlocks old → a.shape ≡ old.shape → b.shape ≡ old.shape → length a.blocks ≡ length old.blocks → length b.blocks
    ≡ length old.blocks
    → ((p : Place) → HasPlace old.shape p → block_of a p ≡ block_of b p) → a ≡ b
same_store old a b all ea eb la lb same =
    store_from_parts a b (ea ∙ sym eb) (ext_get_or [] a.blocks b.blocks (la ∙ sym lb) (λ k l.
    let p = place_at old.shape k in
    let at = place_index-place_at old.shape k in
    sym (block_at a old.shape p k ea at) ∙ same p (HasPlace-place_at old.shape k all.0 (omega (arith, la, all.1))) ∙ block_at b old.shape p k eb at))

-- the words of a block of a whole store
pub block_length : (s : Store) (p : Place) → IsWhole s → HasPlace s.shape p → length (block_of s p) ≡ s.shape.words
block_length s p h hp =
    h.all_words (place_index s.shape p) (subst (λ n. place_index s.shape p < n) (sym h.all_blocks) (place_index_below s.shape p hp))

-- a write of whole words leaves whole words
set_words : (s : Store) (k : ℕ) (ws : List ℕ) → IsWhole s → length ws ≡ s.shape.words → (j : ℕ) → j < length s.blocks → length (get_or (set s.blocks k ws) j [])
    ≡ s.shape.words
set_words s k ws h e j l =
    elim (cases_eq j k) [
      | inl g ↦ subst (λ (x : ℕ). length (get_or (set s.blocks x ws) j []) ≡ s.shape.words) g
          (ap (λ (x : List ℕ). length x) (get_or-set_same s.blocks j ws [] l) ∙ e)
      | inr n ↦ ap (λ (x : List ℕ). length x) (get_or-set_other s.blocks k j ws [] n) ∙ h.all_words j l
    ]

-- a write of whole words keeps a store whole
pub IsWhole-set : (s : Store) (k : ℕ) (ws : List ℕ) → IsWhole s → length ws ≡ s.shape.words → IsWhole (record { shape = s.shape; blocks = set s.blocks k ws })
IsWhole-set s k ws h e = record {
  within = h.within;
  all_blocks = length-set s.blocks k ws ∙ h.all_blocks;
  all_words = λ j l. set_words s k ws h e j (omega (arith, length-set s.blocks k ws));
}

-- two places are one or they aren't
pub same_or_not : (p q : Place) → (p ≡ q) ⊎ (p ≢ q)
same_or_not p q =
    elim (cases_eq p.«module» q.«module») [
      | inl e ↦ elim (cases_eq p.block q.block) [
        | inl f ↦ inl (place_from_parts p q e f)
        | inr n ↦ inr (λ s. n (ap (λ (x : Place). x.block) s))
      ]
      | inr n ↦ inr (λ s. n (ap (λ (x : Place). x.«module») s))
    ]
