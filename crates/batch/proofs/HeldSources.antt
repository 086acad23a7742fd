-- Which blocks a batch writes, and which of its sources were found to be held.
use Rattle.std.proofs.Common.{zero, suc, Bool, true, false, ◌&&◌, ◌||◌, ◌==◌, eq-eqb, ne_eqb, ℕ, ◌≡◌, ◌≢◌, ◌<◌, ◌+◌, ◌⊎◌, ◌↔◌, List, [], ◌∷◌, ◌++◌, length, get_or, set, refl, sym, ap, ap₂, ◌∙◌, subst}
use Rattle.std.proofs.Common.{arith, inl, inr, get_or-set_same, get_or-set_other, Contains}
use Rattle.std.specs.List.{AllPairs}
use Rattle.std.proofs.lemmas.Bool.{cases_eq, false≢true}
use Rattle.std.proofs.lemmas.List.Elements.{Contains-append_left, Contains-get_or, Contains-push, Contains-push_cases}
use Rattle.std.proofs.lemmas.List.Quantifiers.{all_pairs_push}
use Rattle.batch.specs.declared.transfer.Place.{Place}
use Rattle.batch.specs.declared.transfer.Transfer.{Transfer}
use Rattle.batch.specs.ShapeView.{widest}
use Rattle.batch.specs.Places.{HasPlace, place_index, destination_of}
use Rattle.batch.specs.Overlap.{source_at, destination_at}
use Rattle.batch.specs.Held.{same_place, is_written, IsHeldSource, HasHeldSource, AreHeldSources}
use Rattle.batch.specs.Written.{flag_of, AreWritten}
use Rattle.batch.proofs.Flags.{IsWrittenBelow, AreUpBelow}
use Rattle.batch.proofs.Lists.{at_cons}
use Rattle.batch.proofs.Places.{place_from_parts, same_place_from_index}

pub same_place_tells : (p q : Place) → ((same_place p q ≡ true) × (p ≡ q)) ⊎ ((same_place p q ≡ false) × (p ≢ q))
same_place_tells p q =
    elim (cases_eq p.«module» q.«module») [
      | inl e ↦ elim (cases_eq p.block q.block) [
        | inl f ↦ inl (ap₂ (λ (a b : Bool). a && b) (eq-eqb p.«module» q.«module» e) (eq-eqb p.block q.block f), place_from_parts p q e f)
        | inr f ↦ inr (ap₂ (λ (a b : Bool). a && b) (eq-eqb p.«module» q.«module» e) (ne_eqb p.block q.block f), λ g. f (ap (λ (x : Place). x.block) g))
      ]
      | inr f ↦ inr (ap (λ (a : Bool). a && (p.block == q.block)) (ne_eqb p.«module» q.«module» f), λ g. f (ap (λ (x : Place). x.«module») g))
    ]

unwritten_more : (t : Transfer) (ts : List Transfer) (p : Place) → destination_of t ≢ p → ((i : ℕ) → i < length ts → destination_at ts i ≢ p) → (i : ℕ)
    → i < length (t ∷ ts) → destination_at (t ∷ ts) i ≢ p
unwritten_more t ts p n m zero l = n
unwritten_more t ts p n m (suc i) l = m i (omega arith)

-- a transfer of the list writes the block, or none does
pub written_tells : (ts : List Transfer) (p : Place) → ((is_written ts p ≡ true) × IsWrittenBelow ts (length ts) p)
    ⊎ ((is_written ts p ≡ false) × ((i : ℕ) → i < length ts → destination_at ts i ≢ p))
written_tells [] p = inr (refl, λ i l. absurd (omega arith))
written_tells (t ∷ ts) p =
    elim (same_place_tells (destination_of t) p) [
      | inl s ↦ inl (ap (λ (b : Bool). b || is_written ts p) s.0, (0, omega arith, s.1))
      | inr s ↦ elim (written_tells ts p) [
        | inl w ↦ inl (ap₂ (λ (a b : Bool). a || b) s.0 w.0, (suc w.1.0, omega (arith, w.1.1), w.1.2))
        | inr w ↦ inr (ap₂ (λ (a b : Bool). a || b) s.0 w.0, unwritten_more t ts p s.1 w.1)
      ]
    ]

pub is_written-true : (ts : List Transfer) (i : ℕ) (p : Place) → i < length ts → destination_at ts i ≡ p → is_written ts p ≡ true
is_written-true ts i p l e = elim (written_tells ts p) [ inl w ↦ w.0 | inr w ↦ absurd (w.1 i l e) ]

pub is_written-false : (ts : List Transfer) (p : Place) → ((i : ℕ) → i < length ts → destination_at ts i ≢ p) → is_written ts p ≡ false
is_written-false ts p none = elim (written_tells ts p) [ inl w ↦ absurd (none w.1.0 w.1.1 w.1.2) | inr w ↦ w.0 ]

down : (b : Bool) → (b ≡ true → ⊥) → b ≡ false
down true n = absurd (n refl)
down false n = refl

-- flags of all transfers are those of the blocks that they write
pub flags_all : (ts : List Transfer) (n : ℕ) (flags : List Bool) → n ≡ length ts → AreUpBelow ts n flags → AreWritten ts flags
flags_all ts n flags e h p hp =
    elim (written_tells ts p) [
      | inl w ↦ (h p hp).1 (subst (λ (k : ℕ). IsWrittenBelow ts k p) (sym e) w.1) ∙ sym w.0
      | inr w ↦ down (flag_of flags p) (λ up. let at = (h p hp).0 up in w.1 at.0 (omega (arith, at.1)) at.2) ∙ sym w.0
    ]

stands_or_not : (held : List Place) (p : Place) → Contains held p ⊎ (Contains held p → ⊥)
stands_or_not [] p = inr (λ c. absurd (omega (arith, c.1)))
stands_or_not (q ∷ held) p =
    elim (same_place_tells q p) [
      | inl s ↦ inl (0, omega arith, s.1)
      | inr s ↦ elim (stands_or_not held p) [
        | inl c ↦ inl (suc c.0, omega (arith, c.1), c.2)
        | inr n ↦ inr (λ c. elim (at_cons q p held c) [ inl e ↦ s.1 e | inr d ↦ n d ])
      ]
    ]

-- ---- the sources of the transfers below a number

pub record AreHeldBelow (ts : List Transfer) (n : ℕ) (flags : List Bool) (held : List Place) : Type 0 where
  pub unheld : (p : Place) → HasPlace widest p → (flag_of flags p ≡ true) ↔ ((is_written ts p ≡ true) × (Contains held p → ⊥))
  pub sources : (p : Place) → Contains held p → IsHeldSource ts p
  pub taken : (i : ℕ) → i < n → is_written ts (source_at ts i) ≡ true → Contains held (source_at ts i)
  pub once : AllPairs (λ (p q : Place). p ≢ q) held

pub held_none : (ts : List Transfer) (flags : List Bool) (held : List Place) → held ≡ [] → AreWritten ts flags → AreHeldBelow ts 0 flags held
held_none ts flags held e h = subst (AreHeldBelow ts 0 flags) (sym e) (record {
  unheld = λ p hp. (λ up. (sym (h p hp) ∙ up, λ c. absurd (omega (arith, c.1))), λ w. h p hp ∙ w.0);
  sources = λ p c. absurd (omega (arith, c.1));
  taken = λ i l w. absurd (omega arith);
  once = λ i j d l m. absurd (omega arith);
})

-- the next source isn't written, or stands among the held ones already
pub held_skip : (ts : List Transfer) (n : ℕ) (flags : List Bool) (held : List Place) (k : ℕ) (p : Place) → k ≡ place_index widest p → p ≡ source_at ts n
    → HasPlace widest p → get_or flags k false ≡ false → AreHeldBelow ts n flags held → AreHeldBelow ts (n + 1) flags held
held_skip ts n flags held k p at e hp low h =
    record {
      unheld = h.unheld;
      sources = h.sources;
      taken = λ i l w. elim (cases_eq i n) [
        | inl m ↦
            let same : source_at ts i ≡ p = ap (source_at ts) m ∙ sym e in
            elim (stands_or_not held p) [
              | inl c ↦ subst (Contains held) (sym same) c
              | inr none ↦
                  let up : flag_of flags p ≡ true = (h.unheld p hp).1 (sym (ap (is_written ts) same) ∙ w, none) in
                  absurd (false≢true (sym low ∙ ap (λ (x : ℕ). get_or flags x false) at ∙ up))
            ]
        | inr m ↦ h.taken i (omega arith) w
      ];
      once = h.once;
    }

unheld_more : (ts : List Transfer) (n : ℕ) (flags : List Bool) (held : List Place) (p q : Place) → HasPlace widest p → HasPlace widest q
    → place_index widest p < length flags → AreHeldBelow ts n flags held
    → (flag_of (set flags (place_index widest p) false) q ≡ true) ↔ ((is_written ts q ≡ true) × (Contains (held ++ p ∷ []) q → ⊥))
unheld_more ts n flags held p q hp hq l h =
    elim (same_place_tells p q) [
      | inl s ↦
          let low : flag_of (set flags (place_index widest p) false) q ≡ false =
          ap (λ (x : Place). get_or (set flags (place_index widest p) false) (place_index widest x) false) (sym s.1)
          ∙ get_or-set_same flags (place_index widest p) false false l in
          (λ up. absurd (false≢true (sym low ∙ up)), λ w. absurd (w.1 (subst (Contains (held ++ p ∷ [])) s.1 (Contains-push held p))))
      | inr s ↦
          let kept : flag_of (set flags (place_index widest p) false) q ≡ flag_of flags q =
          get_or-set_other flags (place_index widest p) (place_index widest q) false false (λ f. s.1 (same_place_from_index widest p q hp hq (sym f))) in (
            λ up. let w = (h.unheld q hq).0 (sym kept ∙ up) in (w.0, λ c. elim (Contains-push_cases held p q c) [ inl a ↦ w.1 a | inr a ↦ s.1 a ]),
            λ w. kept ∙ (h.unheld q hq).1 (w.0, λ c. w.1 (Contains-append_left held (p ∷ []) q c)),
          )
    ]

-- the next source is held
pub held_one : (ts : List Transfer) (n : ℕ) (flags : List Bool) (held : List Place) (k : ℕ) (p : Place) → k ≡ place_index widest p → p ≡ source_at ts n
    → HasPlace widest p → n < length ts → get_or flags k false ≡ true → AreHeldBelow ts n flags held → HasHeldSource ts
held_one ts n flags held k p at e hp below up h = (p, ((n, below, sym e), ((h.unheld p hp).0 (sym (ap (λ (x : ℕ). get_or flags x false) at) ∙ up)).0))

-- the next source is one more
pub held_more : (ts : List Transfer) (n : ℕ) (flags down : List Bool) (held new : List Place) (k : ℕ) (p : Place) → down ≡ set flags k false → k
    ≡ place_index widest p → p ≡ source_at ts n → HasPlace widest p → n < length ts → k < length flags → get_or flags k false ≡ true → new ≡ held ++ p ∷ []
    → AreHeldBelow ts n flags held → AreHeldBelow ts (n + 1) down new
held_more ts n flags down held new k p cleared at e hp below l up pushed h =
    let w = (h.unheld p hp).0 (sym (ap (λ (x : ℕ). get_or flags x false) at) ∙ up) in
    subst (λ (x : List Bool). AreHeldBelow ts (n + 1) x new) (sym (cleared ∙ ap (λ (x : ℕ). set flags x false) at))
    (subst (AreHeldBelow ts (n + 1) (set flags (place_index widest p) false)) (sym pushed) (record {
      unheld = λ q hq. unheld_more ts n flags held p q hp hq (omega (arith, at)) h;
      sources = λ q c. elim (Contains-push_cases held p q c) [
        | inl a ↦ h.sources q a
        | inr a ↦ subst (IsHeldSource ts) a ((n, below, sym e), w.0)
      ];
      taken = λ i m x. elim (cases_eq i n) [
        | inl f ↦ subst (Contains (held ++ p ∷ [])) (e ∙ ap (source_at ts) (sym f)) (Contains-push held p)
        | inr f ↦ Contains-append_left held (p ∷ []) (source_at ts i) (h.taken i (omega arith) x)
      ];
      once = all_pairs_push (λ (a b : Place). a ≢ b) held p h.once (λ i d m f. w.1 (subst (Contains held) f (Contains-get_or held i d m)));
    }))

pub held_all : (ts : List Transfer) (n : ℕ) (flags : List Bool) (held : List Place) → n ≡ length ts → AreHeldBelow ts n flags held → AreHeldSources ts held
held_all ts n flags held e h = record {
  each = λ p. (h.sources p, λ s. subst (Contains held) s.0.2 (h.taken s.0.0 (omega (arith, s.0.1)) (ap (is_written ts) s.0.2 ∙ s.1)));
  once = h.once;
}
