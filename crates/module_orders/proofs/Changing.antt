-- The flags of the blocks that transfers change.
use Rattle.std.proofs.Common.{ℕ, Bool, true, false, not, ◌&&◌, ◌||◌, ◌≡◌, ◌≢◌, ◌<◌, List, [], ◌∷◌, ◌++◌, length, get_or, set, replicate, refl, sym, ap, ap₂, ◌∙◌, append_assoc, subst, inl, inr}
use Rattle.std.proofs.Common.{get_or-set_same, get_or-set_other}
use Rattle.std.proofs.Math.Bool.{and-not_self, or-false, or-true}
use Rattle.std.proofs.lemmas.Bool.{false≢true}
use Rattle.std.proofs.lemmas.List.Folds.{list_any-append}
use Rattle.batch.proofs.HeldSources.{same_place_tells}
use Rattle.batch.proofs.Places.{same_place_from_index}
use Rattle.batch.specs.ShapeView.{widest}
use Rattle.batch.specs.Held.{same_place}
use Rattle.batch.specs.Places.{HasPlace, place_index, source_of, destination_of}
use Rattle.batch.specs.declared.transfer.Place.{Place}
use Rattle.batch.specs.declared.transfer.Transfer.{Transfer}
use Rattle.module_memory.proofs.Repeats.{none_up}
use Rattle.module_orders.specs.Flags.{AreChanged}
use Rattle.module_orders.specs.Orders.{changed_by, changes}

pub changed_by-push : (ts : List Transfer) (t : Transfer) (p : Place) → changed_by (ts ++ t ∷ []) p ≡ (changed_by ts p || changes t p)
changed_by-push ts t p =
    list_any-append (λ (x : Transfer). changes x p) ts (t ∷ []) ∙ ap (λ (b : Bool). changed_by ts p || b) (or-false (changes t p))

-- a transfer of a block to itself changes nothing
pub changes-self : (t : Transfer) (p : Place) → source_of t ≡ destination_of t → changes t p ≡ false
changes-self t p e = ap (λ (q : Place). same_place (destination_of t) p && not (same_place q p)) e ∙ and-not_self (same_place (destination_of t) p)

-- any other changes the block that it writes, and that alone
pub changes-own : (t : Transfer) → source_of t ≢ destination_of t → changes t (destination_of t) ≡ true
changes-own t ne =
    let d = destination_of t in
    elim (same_place_tells (source_of t) d) [
      | inl s ↦ absurd (ne s.1)
      | inr s ↦ elim (same_place_tells d d) [
        | inl r ↦ ap₂ (λ (a b : Bool). a && not b) r.0 s.0
        | inr r ↦ absurd (r.1 refl)
      ]
    ]

pub changes-other : (t : Transfer) (p : Place) → destination_of t ≢ p → changes t p ≡ false
changes-other t p ne = elim (same_place_tells (destination_of t) p) [
  | inl s ↦ absurd (ne s.1)
  | inr s ↦ ap (λ (b : Bool). b && not (same_place (source_of t) p)) s.0
]

pub none_changed : (n : ℕ) → AreChanged [] (replicate n false)
none_changed n p hp = none_up n (place_index widest p)

-- one transfer more that changes its block
pub changed_more : (ts : List Transfer) (t : Transfer) (flags : List Bool) (k : ℕ) → k ≡ place_index widest (destination_of t)
    → HasPlace widest (destination_of t) → source_of t ≢ destination_of t → k < length flags → AreChanged ts flags
    → AreChanged (ts ++ t ∷ []) (set flags k true)
changed_more ts t flags k at hd ne l h p hp =
    let d = destination_of t in
    elim (same_place_tells d p) [
      | inl s ↦
          let here : place_index widest p ≡ k = ap (place_index widest) (sym s.1) ∙ sym at in
          let up : get_or (set flags k true) k false ≡ true = get_or-set_same flags k true false l in
          let of_t : changes t p ≡ true = ap (changes t) (sym s.1) ∙ changes-own t ne in
          ap (λ (n : ℕ). get_or (set flags k true) n false) here ∙ up ∙ sym (changed_by-push ts t p ∙ ap (λ (b : Bool). changed_by ts p || b) of_t
          ∙ or-true (changed_by ts p))
      | inr s ↦
          let apart : place_index widest p ≢ k = λ e. s.1 (same_place_from_index widest d p hd hp (sym at ∙ sym e)) in
          get_or-set_other flags k (place_index widest p) true false apart ∙ h p hp
          ∙ sym (changed_by-push ts t p ∙ ap (λ (b : Bool). changed_by ts p || b) (changes-other t p s.1) ∙ or-false (changed_by ts p))
    ]

-- one more that changes nothing
pub changed_skip : (ts : List Transfer) (t : Transfer) (flags : List Bool) → source_of t ≡ destination_of t → AreChanged ts flags
    → AreChanged (ts ++ t ∷ []) flags
changed_skip ts t flags e h p hp =
    h p hp ∙ sym (changed_by-push ts t p ∙ ap (λ (b : Bool). changed_by ts p || b) (changes-self t p e) ∙ or-false (changed_by ts p))

-- the same after others
pub then_one : (before ts all : List Transfer) (t : Transfer) (flags : List Bool) → all ≡ ts ++ t ∷ [] → AreChanged ((before ++ ts) ++ t ∷ []) flags
    → AreChanged (before ++ all) flags
then_one before ts all t flags e h = subst (λ (xs : List Transfer). AreChanged xs flags)
    (append_assoc before ts (t ∷ []) ∙ ap (λ (xs : List Transfer). before ++ xs) (sym e)) h

-- what a test of two places tells
pub told_apart : (p q : Place) (b : Bool) → b ≡ not (same_place p q) → b ≡ true → p ≢ q
told_apart p q b is up e = elim (same_place_tells p q) [
  | inl s ↦ false≢true (sym (is ∙ ap not s.0) ∙ up)
  | inr s ↦ s.1 e
]

pub told_same : (p q : Place) (b : Bool) → b ≡ not (same_place p q) → b ≡ false → p ≡ q
told_same p q b is down = elim (same_place_tells p q) [
  | inl s ↦ s.1
  | inr s ↦ absurd (false≢true (sym down ∙ is ∙ ap not s.0))
]
