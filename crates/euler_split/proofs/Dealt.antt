-- Members that are dealt by the turns of their pairs: at each link the halves have equally many
-- uses, or one more or less.
use Rattle.std.proofs.Common.{◌≡◌, ◌==◌, ℕ, ◌+◌, ◌<◌, List, [], ◌∷◌, ◌++◌, length, get_or, take, sum_by, slice_get, Option, Some, Bool, true, false, not, refl, sym, ap, ◌∙◌, arith, add-one}
use Rattle.std.proofs.Common.{append_assoc}
use Rattle.std.proofs.Math.Seq.{take-length}
use Rattle.std.specs.List.Sorted.{IsPermutation}
use Rattle.std.specs.Option.{unwrap_or}
use Rattle.std.proofs.lemmas.Bool.Decides.{nat_tests}
use Rattle.std.proofs.lemmas.List.{take_more}
use Rattle.std.proofs.lemmas.List.Elements.{filter_map-append}
use Rattle.std.proofs.lemmas.List.Sorted.{IsPermutation-sym, IsPermutation-middle, IsPermutation-to_front, IsPermutation-push_more, sum_by-IsPermutation}
use Rattle.std.proofs.lemmas.List.Sums.{sum_by-cons, sum_by-append, sum_by_push}
use Rattle.batch.specs.Batches.{IsBatch}
use Rattle.batch.specs.declared.transfer.Transfer.{Transfer}
use Rattle.link_graph.specs.declared.link.End.{End}
use Rattle.link_graph.specs.declared.link.End.TheVariants.{Zero, Three}
use Rattle.link_graph.specs.declared.link.Link.{Link}
use Rattle.link_graph.specs.Counts.{module_at, uses}
use Rattle.link_graph.specs.Marks.{members}
use Rattle.euler_split.specs.Split.{uses_among, IsSplit}
use Rattle.euler_split.specs.Pairs.{module_in, modules_in}
use Rattle.euler_split.specs.Walks.{partner_at, half_at, IsHalved}
use Rattle.link_graph.specs.Masks.{has_pair}
use Rattle.link_graph.proofs.Masks.{bit}
use Rattle.euler_split.specs.Masks.{AreToggled}
use Rattle.euler_split.specs.Trails.{pairs_of_module, AreHalved}
use Rattle.euler_split.specs.Deals.{in_left, odd_among, differ, AreDealt}
use Rattle.euler_split.specs.Evenness.{uses_pair, pair_count}
use Rattle.euler_split.proofs.Modules.{known_transfer, module_is, module_in_low}
use Rattle.euler_split.proofs.Masks.{none_at, pairs_sum, pairs_toggled}
use Rattle.euler_split.proofs.Turns.{not-not, some_of}

-- the left half tells partners apart
pub left_tells : (zs ts : List (Option ℕ)) (h : List (Option Bool)) (e : End) → IsHalved zs ts (length zs) h → (u v : ℕ) → partner_at zs ts e u ≡ Some v
    → u < length zs → in_left h u ≡ not (in_left h v)
left_tells zs ts h e all u v at u_in =
    let x = some_of (half_at h u) (all.done u u_in) in
    let m = (all.met u v e at (all.done u u_in)).opposed x.0 x.1 in
    let left : Option Bool → Bool = λ o. unwrap_or o false in
    ap left x.1 ∙ (sym (not-not x.0) ∙ sym (ap (λ o. not (left o)) m))

-- ---- the uses of a link among transfers

module _ (g : List Transfer) (link : Link) where
  uses_append : (a b : List ℕ) → uses_among g (a ++ b) link ≡ uses_among g a link + uses_among g b link
  uses_append a b = ap (λ (xs : List Transfer). uses xs link) (filter_map-append (λ t. slice_get g t) a b)
      ∙ sum_by-append (λ (x : Transfer). bit (module_at link.end x == link.«module»)) (members g a) (members g b)

  uses_one : (t : ℕ) → t < length g → uses_among g (t ∷ []) link ≡ bit (module_in g link.end t == link.«module»)
  uses_one t t_in =
      let here = known_transfer g t t_in in
      rw (here.1, module_is g link.end t here.0 t_in here.1) (omega arith)

  uses_sum : (ts : List ℕ) → uses_among g ts link ≡ sum_by (λ t. uses_among g (t ∷ []) link) ts
  uses_sum [] = refl
  uses_sum (t ∷ ts) = omega (arith, uses_append (t ∷ []) ts, sum_by-cons (λ u. uses_among g (u ∷ []) link) t ts, uses_sum ts)

  -- those of two parts
  uses_parts : (whole left right : List ℕ) → IsPermutation whole (left ++ right) → uses_among g left link + uses_among g right link ≡ uses_among g whole link
  uses_parts whole left right parts = omega (
    arith,
    uses_append left right,
    uses_sum (left ++ right),
    uses_sum whole,
    sum_by-IsPermutation (λ t. uses_among g (t ∷ []) link) whole (left ++ right) parts,
  )

-- ---- one more member is dealt

module _ (g : List Transfer) (whole : List ℕ) (n : ℕ) (turns now new left right : List ℕ) (batch : IsBatch g) (n_in : n < length whole)
    (t_in : get_or whole n 0 < length g) (so_far : AreDealt g whole n turns now left right)
    (next : AreToggled now new (modules_in g whole Zero n) (modules_in g whole Three n)) where
  abbrev t : ℕ
  t = get_or whole n 0

  turned_more : (u v : ℕ) → has_pair new u v ≡ differ (has_pair turns u v) (odd_among (modules_in g whole) (n + 1) u v)
  turned_more u v = rw add-one (grind (arith, nat_tests, next u v, so_far.turned u v))

  -- of the pair that it uses one more is in the half that it goes to
  pair_push : (ts : List ℕ) (u v : ℕ) → pair_count g (ts ++ t ∷ []) u v ≡ pair_count g ts u v + bit (uses_pair g u v t)
  pair_push ts u v = sum_by_push (λ (x : ℕ). bit (uses_pair g u v x)) ts t

  pub dealt_left : has_pair now (modules_in g whole Zero n) (modules_in g whole Three n) ≡ true → AreDealt g whole (n + 1) turns new (left ++ t ∷ []) right
  dealt_left was = record {
    parts = rw (take_more whole n 0 n_in) (IsPermutation-push_more (take n whole) (left ++ right) ((left ++ t ∷ []) ++ right) t so_far.parts
        (rw append_assoc (IsPermutation-sym _ _ (IsPermutation-middle left t right))));
    turned = turned_more;
    pairs = λ u v. grind (arith, nat_tests, was, next u v, so_far.pairs u v, pair_push left u v);
    even = λ link. grind (
      arith,
      was,
      pairs_toggled (λ e. module_in g e t) (λ e. module_in_low g e t batch t_in) true (has_pair now) (has_pair new) next
          link.end link.«module»,
      so_far.even link,
      uses_append g link left (t ∷ []),
      uses_one g link t t_in,
    );
  }

  pub dealt_right : has_pair now (modules_in g whole Zero n) (modules_in g whole Three n) ≡ false → AreDealt g whole (n + 1) turns new left (right ++ t ∷ [])
  dealt_right was = record {
    parts = rw (take_more whole n 0 n_in) (IsPermutation-push_more (take n whole) (left ++ right) (left ++ (right ++ t ∷ [])) t so_far.parts
        (rw (← append_assoc) (IsPermutation-sym _ _ (IsPermutation-to_front (left ++ right) t))));
    turned = turned_more;
    pairs = λ u v. grind (arith, nat_tests, was, next u v, so_far.pairs u v, pair_push right u v);
    even = λ link. grind (
      arith,
      was,
      pairs_toggled (λ e. module_in g e t) (λ e. module_in_low g e t batch t_in) true (has_pair now) (has_pair new) next
          link.end link.«module»,
      so_far.even link,
      uses_append g link right (t ∷ []),
      uses_one g link t t_in,
    );
  }

-- ---- the halves

-- where the turns began with half of the pairs of an odd number of members
pub is_split : (g : List Transfer) (whole odd turns now left right : List ℕ)
    → ((u v : ℕ) → has_pair odd u v ≡ odd_among (modules_in g whole) (length whole) u v) → AreHalved (has_pair odd) (has_pair turns)
    → AreDealt g whole (length whole) turns now left right → IsSplit g whole left right
is_split g whole odd turns now left right is_odd halved dealt =
    let parts : IsPermutation whole (left ++ right) = rw take-length at dealt.parts in
    let others : (e : End) (m : ℕ) → pairs_of_module (has_pair now) e m + pairs_of_module (has_pair turns) e m ≡ pairs_of_module (has_pair odd) e m =
    λ e m. omega (
      arith,
      none_at (λ _ _. false) e m (λ _ _ _. refl),
      pairs_sum (has_pair now) (has_pair turns) (has_pair odd) (λ _ _. false)
          (λ u v. grind (arith, dealt.turned u v, is_odd u v, halved.within u v)) e m,
    ) in
    record {
      parts = parts;
      left_uses = λ link. omega (
        arith,
        uses_parts g link whole left right parts,
        dealt.even link,
        others link.end link.«module»,
        halved.least link.end link.«module»,
        halved.most link.end link.«module»,
      );
      right_uses = λ link. omega (
        arith,
        uses_parts g link whole left right parts,
        dealt.even link,
        others link.end link.«module»,
        halved.least link.end link.«module»,
        halved.most link.end link.«module»,
      );
    }
