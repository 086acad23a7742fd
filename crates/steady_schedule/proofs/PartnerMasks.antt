-- The masks of partners, and the link that has the most.
use Rattle.std.proofs.Common.{◌≡◌, ◌≢◌, ◌==◌, ℕ, zero, suc, ◌+◌, ◌^◌, ◌<◌, ◌≤◌, List, [], ◌∷◌, ◌++◌, get_or, set, replicate, Bool, true, ◌&&◌, ◌||◌, refl, sym, ap, ◌∙◌, inl, inr, add-one, eq-eqb}
use Rattle.std.proofs.Common.{arith}
use Rattle.std.specs.Prelude.{nat_lt}
use Rattle.std.specs.Int.RustNames.{bit_or}
use Rattle.std.specs.List.{list_any, IsFirstBest}
use Rattle.std.proofs.Math.Bool.{or-false}
use Rattle.std.proofs.lemmas.Bool.{cases_lt, cases_eq, or_left, ltb-true, ltb-false}
use Rattle.std.proofs.lemmas.Bool.Decides.{nat_tests}
use Rattle.std.proofs.lemmas.List.{length-replicate, length-set}
use Rattle.std.proofs.lemmas.List.Elements.{All-head}
use Rattle.std.proofs.lemmas.List.Folds.{list_any-append}
use Rattle.batch.specs.Batches.{IsBatch}
use Rattle.batch.specs.ShapeView.{widest}
use Rattle.batch.specs.Text.{IsWithin}
use Rattle.batch.specs.declared.limits.TheConstants.{MAX_MODULES}
use Rattle.batch.specs.declared.transfer.Transfer.{Transfer}
use Rattle.link_graph.specs.declared.limits.TheConstants.{LINKS}
use Rattle.link_graph.specs.declared.link.End.{End}
use Rattle.link_graph.specs.declared.link.End.TheVariants.{Zero, Three}
use Rattle.link_graph.specs.declared.link.Link.{Link}
use Rattle.link_graph.specs.Links.{link_index}
use Rattle.link_graph.specs.Counts.{count_below}
use Rattle.link_graph.specs.Uses.{start_link}
use Rattle.link_graph.proofs.Tables.{index_below, before_index, uses_outside}
use Rattle.link_graph.proofs.Users.{made}
use Rattle.link_graph.specs.Masks.{has_bit, has_pair}
use Rattle.link_graph.proofs.Sums.{count_below_same}
use Rattle.link_graph.proofs.Masks.{bit, no_pair}
use Rattle.steady_schedule.specs.Masks.{bits_set}
use Rattle.steady_schedule.specs.Partners.{joins_to, partners, HasMostPartners, ArePartnerMasks}
use Rattle.steady_schedule.proofs.Bits.{pair_added}
use Rattle.steady_schedule.proofs.NeedChanges.{partners_few}

pub any_push : {X : Type 0} (p : X → Bool) (xs : List X) (x : X) → list_any p (xs ++ x ∷ []) ≡ (list_any p xs || p x)
any_push p xs x = list_any-append p xs (x ∷ []) ∙ ap (λ (b : Bool). list_any p xs || b) (or-false (p x))

pub no_masks : ArePartnerMasks [] (replicate LINKS 0)
no_masks = record { places = length-replicate {A = ℕ} LINKS 0; at = λ link m low m_low. no_pair LINKS (link_index link) m }

module _ (xs : List Transfer) (x : Transfer) (masks : List ℕ) (a b : ℕ) (so_far : ArePartnerMasks xs masks) (start : a ≡ x.initiator) (answer : b ≡ x.responder)
    (start_low : a < MAX_MODULES) (answer_low : b < MAX_MODULES) where
  abbrev one : List ℕ
  one = set masks a (bit_or (get_or masks a 0) (2 ^ b))

  abbrev both : List ℕ
  both = set one (MAX_MODULES + b) (bit_or (get_or one (MAX_MODULES + b) 0) (2 ^ a))

  both_are : (u m : ℕ) → has_pair both u m ≡ ((has_pair masks u m || (a == u && b == m)) || (MAX_MODULES + b == u && a == m))
  both_are u m =
      pair_added one (MAX_MODULES + b) a u m (omega (arith, length-set masks a (bit_or (get_or masks a 0) (2 ^ b)), so_far.places))
      ∙ ap (λ (t : Bool). t || (MAX_MODULES + b == u && a == m)) (pair_added masks a b u m (omega (arith, so_far.places)))

  more_at : (e : End) (n m : ℕ) → n < MAX_MODULES → m < MAX_MODULES → has_pair both (link_index (made e n)) m ≡ list_any (joins_to (made e n) m) (xs ++ x ∷ [])
  more_at Zero n m low m_low =
      both_are n m ∙ (rw (any_push (joins_to (made Zero n) m) xs x, ← so_far.at (made Zero n) m low m_low) (grind (arith, nat_tests)))
  more_at Three n m low m_low =
      both_are (MAX_MODULES + n) m ∙ (rw (any_push (joins_to (made Three n) m) xs x, ← so_far.at (made Three n) m low m_low) (grind (arith, nat_tests)))

  pub masks_more : ArePartnerMasks (xs ++ x ∷ []) both
  masks_more = record {
    places = length-set one (MAX_MODULES + b) (bit_or (get_or one (MAX_MODULES + b) 0) (2 ^ a))
        ∙ (length-set masks a (bit_or (get_or masks a 0) (2 ^ b)) ∙ so_far.places);
    at = λ link m low m_low. more_at link.end link.«module» m low m_low;
  }

-- ---- how many are in a mask

pub count_more : (n : ℕ) (p : ℕ → Bool) → count_below (n + 1) p ≡ bit (p n) + count_below n p
count_more n p = ap (λ (k : ℕ). count_below k p) (add-one n)

pub bits_set_is : (mask n : ℕ) → n ≡ MAX_MODULES → count_below n (λ m. has_bit mask m) ≡ bits_set mask
unfolding bits_set
bits_set_is mask n all = ap (λ (k : ℕ). count_below k (λ m. has_bit mask m)) all

module _ (batch : List Transfer) (masks counts : List ℕ) (fits : IsBatch batch) (are : ArePartnerMasks batch masks)
    (counted : (k : ℕ) → k < LINKS → get_or counts k 0 ≡ bits_set (get_or masks k 0)) where
  partners_at : (link : Link) → link.«module» < MAX_MODULES → partners batch link ≡ get_or counts (link_index link) 0
  unfolding partners bits_set
  partners_at link low =
      sym (counted (link_index link) (index_below link low) ∙ count_below_same MAX_MODULES (λ m. has_pair masks (link_index link) m)
      (λ m. list_any (joins_to link m) batch) (λ m m_low. are.at link m low m_low))

  partners_outside : (link : Link) → MAX_MODULES ≤ link.«module» → partners batch link ≡ 0
  unfolding partners
  partners_outside link far = omega (arith, partners_few link MAX_MODULES batch, uses_outside batch link fits far)

  module _ (most : ℕ) (best : IsFirstBest (λ a b. nat_lt b a) counts LINKS most) where
    pub most_is : (link : Link) → get_or counts most 0 ≢ 0 → link_index link ≡ most → link.«module» < MAX_MODULES → HasMostPartners batch link
        × (get_or counts most 0 ≡ partners batch link)
    most_is link some at low =
        let here : partners batch link ≡ get_or counts most 0 = partners_at link low ∙ ap (λ (i : ℕ). get_or counts i 0) at in (
          record {
            some = omega arith;
            most = λ other. elim (cases_lt other.«module» MAX_MODULES) [
              | inl in_rack ↦ omega (arith, here, partners_at other in_rack, ltb-false _ _ (best.1 (link_index other) 0 (index_below other in_rack)))
              | inr outside ↦ omega (arith, here, partners_outside other outside)
            ];
            first = λ other before. elim (cases_lt other.«module» MAX_MODULES) [
              | inl in_rack ↦
                  let earlier : link_index other < most = omega (arith, before_index other link before in_rack low) in
                  omega (arith, here, partners_at other in_rack, ltb-true _ _ (best.2 (link_index other) 0 earlier))
              | inr outside ↦ omega (arith, here, some, partners_outside other outside)
            ];
          },
          sym here,
        )

pub count_some : (n k : ℕ) (p : ℕ → Bool) → k < n → p k ≡ true → 0 < count_below n p
count_some zero k p lt passes = absurd (omega arith)
count_some (suc n) k p lt passes = elim (cases_eq k n) [
  | inl e ↦ omega (arith, ap bit (ap p (sym e) ∙ passes))
  | inr ne ↦ omega (arith, count_some n k p (omega arith) passes)
]

-- a transfer's starting link has a partner
some_partner : (x : Transfer) (xs : List Transfer) → x.responder < MAX_MODULES → 0 < partners (x ∷ xs) (start_link x)
unfolding partners
some_partner x xs low =
    count_some MAX_MODULES x.responder (λ m. list_any (joins_to (start_link x) m) (x ∷ xs)) low
    (or_left (joins_to (start_link x) x.responder x) (list_any (joins_to (start_link x) x.responder) xs)
    (rw (eq-eqb x.initiator x.initiator refl, eq-eqb x.responder x.responder refl) refl))

pub none_joined : (batch : List Transfer) (masks counts : List ℕ) (most : ℕ) → IsBatch batch → ArePartnerMasks batch masks
    → ((k : ℕ) → k < LINKS → get_or counts k 0 ≡ bits_set (get_or masks k 0)) → IsFirstBest (λ a b. nat_lt b a) counts LINKS most → get_or counts most 0 ≡ 0
    → batch ≡ []
none_joined [] masks counts most fits are counted best none = refl
none_joined (x ∷ xs) masks counts most fits are counted best none =
    let within = All-head (IsWithin widest) x xs fits.within in
    absurd (omega (
      arith,
      some_partner x xs within.0.1,
      partners_at (x ∷ xs) masks counts fits are counted (start_link x) within.0.0,
      ltb-false _ _ (best.1 (link_index (start_link x)) 0 (index_below (start_link x) within.0.0)),
    ))
