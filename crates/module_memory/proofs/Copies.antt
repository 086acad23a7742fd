-- Copies of held blocks.
use Rattle.std.proofs.Common.{zero, suc, ℕ, ◌≡◌, ◌≢◌, ◌<◌, ◌+◌, ◌⊎◌, inl, inr, List, [], ◌∷◌, length, get_or, set, sym, ap, ◌∙◌, subst, arith, length-set, get_or-set_same, get_or-set_other}
use Rattle.std.proofs.lemmas.Bool.{cases_eq}
use Rattle.batch.specs.declared.transfer.Place.{Place}
use Rattle.batch.specs.Places.{HasPlace, place_index}
use Rattle.batch.proofs.Places.{same_place_from_index, place_index_below}
use Rattle.module_memory.specs.Store.{Store, IsWhole, block_of}
use Rattle.module_memory.specs.Lending.{place_in, copy_in, AreCopies, AreWholeCopies}
use Rattle.module_memory.proofs.Blocks.{same_or_not, block_length}

none_more : (q : Place) (held : List Place) (p : Place) → q ≢ p → ((i : ℕ) → i < length held → place_in held i ≢ p) → (i : ℕ) → i < length (q ∷ held)
    → place_in (q ∷ held) i ≢ p
none_more q held p n m zero l = n
none_more q held p n m (suc i) l = m i (omega arith)

-- the place stands at a position of the list, or at none
pub stands_or_not : (held : List Place) (p : Place) → ((i : ℕ) × (i < length held) × (place_in held i ≡ p)) ⊎ ((i : ℕ) → i < length held → place_in held i ≢ p)
stands_or_not [] p = inr (λ i l. absurd (omega arith))
stands_or_not (q ∷ held) p =
    elim (same_or_not q p) [
      | inl e ↦ inl (0, omega arith, e)
      | inr n ↦ elim (stands_or_not held p) [
        | inl f ↦ inl (suc f.0, omega (arith, f.1), f.2)
        | inr m ↦ inr (none_more q held p n m)
      ]
    ]

-- the copies of the held places below a number are made
pub record AreCopiesUpTo (s : Store) (held : List Place) (n : ℕ) (copies : List (List ℕ)) : Type 0 where
  pub size : length copies ≡ length s.blocks
  pub copied : (k : ℕ) → k < n → copy_in s.shape copies (place_in held k) ≡ block_of s (place_in held k)
  pub others : (p : Place) → HasPlace s.shape p → ((k : ℕ) → k < n → place_in held k ≢ p) → copy_in s.shape copies p ≡ []

pub copies_more : (s : Store) (held : List Place) (n index : ℕ) (copies : List (List ℕ)) → IsWhole s → (p : Place) → p ≡ place_in held n → HasPlace s.shape p
    → ((k : ℕ) → k < n → HasPlace s.shape (place_in held k)) → index ≡ place_index s.shape p → AreCopiesUpTo s held n copies
    → AreCopiesUpTo s held (n + 1) (set copies index (block_of s p))
copies_more s held n index copies whole p at hp before e h =
    let here : copy_in s.shape (set copies index (block_of s p)) p ≡ block_of s p =
    ap (λ (x : ℕ). get_or (set copies index (block_of s p)) x []) (sym e) ∙ get_or-set_same copies index (block_of s p) []
    (omega (arith, h.size, whole.all_blocks, place_index_below s.shape p hp)) in
    let other : (q : Place) → HasPlace s.shape q → p ≢ q → copy_in s.shape (set copies index (block_of s p)) q ≡ copy_in s.shape copies q =
    λ q hq n'. get_or-set_other copies index (place_index s.shape q) (block_of s p) [] (λ f. n' (same_place_from_index s.shape p q hp hq (sym e ∙ sym f))) in
    record {
      size = length-set copies index (block_of s p) ∙ h.size;
      copied = λ k l. elim (same_or_not p (place_in held k)) [
        | inl same ↦ subst (λ (q : Place). copy_in s.shape (set copies index (block_of s p)) q ≡ block_of s q) same here
        | inr differ ↦ elim (cases_eq k n) [
          | inl f ↦ absurd (differ (at ∙ ap (place_in held) (sym f)))
          | inr f ↦ other (place_in held k) (before k (omega arith)) differ ∙ h.copied k (omega arith)
        ]
      ];
      others = λ q hq none. other q hq (λ f. none n (omega arith) (sym at ∙ f)) ∙ h.others q hq (λ k l. none k (omega arith));
    }

pub copies_all : (s : Store) (held : List Place) (n : ℕ) (copies : List (List ℕ)) → n ≡ length held → AreCopiesUpTo s held n copies → AreCopies s held copies
copies_all s held n copies e h = record {
  copied = λ k l. h.copied k (omega arith);
  others = λ p hp none. h.others p hp (λ k l. none k (omega arith));
}

pub copies_whole : (s : Store) (held : List Place) (copies : List (List ℕ)) → IsWhole s → AreCopies s held copies → AreWholeCopies s.shape copies
copies_whole s held copies whole h p hp =
    elim (stands_or_not held p) [
      | inl f ↦ inr (ap (length {A = ℕ}) (subst (λ (q : Place). copy_in s.shape copies q ≡ block_of s q) f.2 (h.copied f.0 f.1)) ∙ block_length s p whole hp)
      | inr none ↦ inl (h.others p hp none)
    ]
