-- How large the classes are, and that a smallest one has at most its share.
use Rattle.std.proofs.Common.{◌≡◌, ℕ, zero, suc, ◌+◌, ◌-◌, ◌*◌, ◌<◌, ◌≤◌, ◌↔◌, inl, inr, List, [], ◌∷◌, length, map, get_or, Option, Some, None, is_some, Bool, true, false, cond, count_by, refl, sym}
use Rattle.std.proofs.Common.{ap, ◌∙◌, subst, arith, add-one, take, drop, below_more, eq-eqb}
use Rattle.std.specs.Prelude.{◌==◌, Contains}
use Rattle.std.specs.List.{filter_map}
use Rattle.std.proofs.lemmas.List.{take_all, get_or-take, get_or-drop, length-take}
use Rattle.std.proofs.lemmas.List.Sums.{sum_by-cons, count_by_more_yes, count_by_more_no}
use Rattle.std.proofs.lemmas.Option.{same_Some, none-some}
use Rattle.std.proofs.lemmas.Bool.{cases_Bool, eqb-true, false≢true}
use Rattle.std.proofs.lemmas.Bool.Decides.{eqb_tells}
use Rattle.batch.specs.declared.limits.TheConstants.{MAX_MODULES}
use Rattle.batch.specs.declared.transfer.Transfer.{Transfer}
use Rattle.link_graph.specs.declared.limits.TheConstants.{LINKS}
use Rattle.link_graph.specs.declared.link.End.{End}
use Rattle.link_graph.specs.declared.link.End.TheVariants.{Zero, Three}
use Rattle.link_graph.specs.Certificates.{AreDistinct}
use Rattle.alternating_path.specs.Colouring.{Colouring, colour_at}
use Rattle.link_graph.specs.Counts.{count_below}
use Rattle.link_graph.proofs.Sums.{sum_below, sum_below-add, sum_below_none, count_below_same}
use Rattle.alternating_path.specs.Classes.{is_colour, class_size, placed_count, without_colour, IsSmallestClass, IsTakenBack}
use Rattle.alternating_path.specs.Cells.{place_at, holder_at, AreCellsOf, StartBelow, AreStarts}
use Rattle.alternating_path.proofs.Links.{answer_high}
use Rattle.alternating_path.proofs.Writes.{some_within}
use Rattle.alternating_path.proofs.Held.{as_many}

-- ---- the transfers of a row

abbrev pub class_list : List (Option ℕ) → List ℕ
class_list row = filter_map (λ holder. holder) row

pub class_list-length : (row : List (Option ℕ)) → length (class_list row) ≡ count_by is_some row
class_list-length [] = refl
class_list-length (None ∷ row) = omega (arith, sum_by-cons (λ (o : Option ℕ). cond (is_some o) 1 0) None row, class_list-length row)
class_list-length (Some t ∷ row) = omega (arith, sum_by-cons (λ (o : Option ℕ). cond (is_some o) 1 0) (Some t) row, class_list-length row)

-- what stands in the list stands in the row
in_row : (row : List (Option ℕ)) (i d : ℕ) → i < length (class_list row) → (m : ℕ) × (get_or row m None ≡ Some (get_or (class_list row) i d))
in_row [] i d i_in = absurd (omega arith)
in_row (None ∷ row) i d i_in = let rest = in_row row i d i_in in (suc rest.0, rest.1)
in_row (Some t ∷ row) zero d i_in = (0, refl)
in_row (Some t ∷ row) (suc i) d i_in = let rest = in_row row i d (omega arith) in (suc rest.0, rest.1)

in_list : (row : List (Option ℕ)) (m t : ℕ) → get_or row m None ≡ Some t → Contains (class_list row) t
in_list [] m t at = absurd (none-some t at)
in_list (None ∷ row) zero t at = absurd (none-some t at)
in_list (None ∷ row) (suc m) t at = in_list row m t at
in_list (Some u ∷ row) zero t at = (0, omega arith, same_Some u t at)
in_list (Some u ∷ row) (suc m) t at = let rest = in_list row m t at in (suc rest.0, omega (arith, rest.1), rest.2)

-- no transfer stands at two places of the row
abbrev StandsOnce : List (Option ℕ) → Type 0
StandsOnce row = (m n t : ℕ) → m < n → get_or row m None ≡ Some t → get_or row n None ≡ Some t → ⊥

distinct_list : (row : List (Option ℕ)) → StandsOnce row → AreDistinct (class_list row)
distinct_list [] once i j d lt within same = omega arith
distinct_list (None ∷ row) once i j d lt within same = distinct_list row (λ m n t less at too. once (suc m) (suc n) t (omega arith) at too) i j d lt within same
distinct_list (Some u ∷ row) once zero zero d lt within same = omega arith
distinct_list (Some u ∷ row) once zero (suc j) d lt within same =
    let stands = in_row row j d (omega arith) in
    once 0 (suc stands.0) u (omega arith) refl (stands.1 ∙ ap Some (sym same))
distinct_list (Some u ∷ row) once (suc i) zero d lt within same = omega arith
distinct_list (Some u ∷ row) once (suc i) (suc j) d lt within same = distinct_list row (λ m n t less at too. once (suc m) (suc n) t (omega arith) at too) i j d
    (omega arith) (omega arith) same

module _ (s : Colouring) (c : ℕ) (row : List (Option ℕ)) (starts : AreStarts s c row) where
  pub given_just : (t : ℕ) → Contains (class_list row) t ↔ (colour_at s.colour t ≡ Some c)
  given_just t = (
    λ stands. let there = in_row row stands.0 t stands.1 in (starts.back there.0 t (there.1 ∙ ap Some stands.2)).0,
    λ at. in_list row (place_at s.batch t Zero) t (starts.held t at),
  )

  pub given_once : AreDistinct (class_list row)
  given_once = distinct_list row (λ m n t less at too. let a = (starts.back m t at).1 in let b = (starts.back n t too).1 in omega arith)

-- ---- counts of cells

counted_upto : (row : List (Option ℕ)) (n : ℕ) → n ≤ length row → count_below n (λ m. is_some (get_or row m None)) ≡ count_by is_some (take n row)
counted_upto row zero le = refl
counted_upto row (suc n) le =
    let rest = counted_upto row n (omega arith) in
    elim (cases_Bool (is_some (get_or row n None))) [
      | inl yes' ↦ let more : count_by is_some (take (suc n) row) ≡ count_by is_some (take n row) + 1 = rw (add-one n)
          at (count_by_more_yes is_some row n None (omega arith) yes') in rw (yes', more) (omega (arith, rest))
      | inr no' ↦ let same : count_by is_some (take (suc n) row) ≡ count_by is_some (take n row) = rw (add-one n)
          at (count_by_more_no is_some row n None (omega arith) no') in rw (no', same) (omega (arith, rest))
    ]

-- the place of t where t has the colour c
unfoldable place_if : Bool → ℕ → Option ℕ
place_if b place = cond b (Some place) None

if_some : (b : Bool) (place m : ℕ) → cond b (Some place) None ≡ Some m → (b ≡ true) × (place ≡ m)
if_some true place m h = (refl, same_Some place m h)
if_some false place m h = absurd (none-some m h)

colour_yes : (c : ℕ) (o : Option ℕ) → is_colour c o ≡ true → o ≡ Some c
colour_yes c None h = absurd (false≢true h)
colour_yes c (Some d) h = ap Some (eqb-true d c h)

yes_colour : (c : ℕ) (o : Option ℕ) → o ≡ Some c → is_colour c o ≡ true
yes_colour c o h = rw h (eq-eqb c c refl)

pub row_counts : (s : Colouring) (c : ℕ) (row : List (Option ℕ)) → AreStarts s c row → count_by is_some row ≡ class_size s.colour c
unfolding place_if
row_counts s c row starts =
    let n = length s.colour in
    let p : ℕ → Option ℕ = λ t. place_if (is_colour c (colour_at s.colour t)) (place_at s.batch t Zero) in
    let tests = count_below_same n (λ t. is_colour c (colour_at s.colour t)) (λ t. is_some (p t))
    (λ t _. elim (is_colour c (colour_at s.colour t)) as (λ b. b ≡ is_some (cond b (Some (place_at s.batch t Zero)) None))
    [ true ↦ refl | false ↦ refl ]) in
    let matched = as_many n (length row) p (λ m. get_or row m None)
    (λ t m t_in at.
    let both = if_some (is_colour c (colour_at s.colour t)) (place_at s.batch t Zero) m at in
    let held : get_or row m None ≡ Some t = subst (λ (i : ℕ). get_or row i None ≡ Some t) both.1 (starts.held t (colour_yes c _ both.0)) in
    (some_within row m t held, held))
    (λ m t m_in at.
    let b = starts.back m t at in
    (some_within s.colour t c b.0, rw (yes_colour c _ b.0) (ap Some b.1))) in
    let counted = counted_upto row (length row) (omega arith) in
    let all = ap (count_by is_some) (take_all (length row) row (omega arith)) in
    sym all ∙ (sym counted ∙ (sym matched ∙ sym tests))

-- ---- a smallest class

many_least : (k s : ℕ) (f : ℕ → ℕ) → ((d : ℕ) → d < k → s ≤ f d) → s * k ≤ sum_below k f
many_least zero s f least = omega arith
many_least (suc k) s f least = omega (arith, least k (omega arith), many_least k s f (λ d d_in. least d (omega arith)))

-- a number is one of those below k at most once
at_most_once : (k e : ℕ) → (sum_below k (λ d. cond (e == d) 1 0) ≤ 1) × (k ≤ e → sum_below k (λ d. cond (e == d) 1 0) ≡ 0)
at_most_once zero e = (omega arith, λ _. refl)
at_most_once (suc k) e =
    let rest = at_most_once k e in
    elim (eqb_tells e k) [
      | inl same ↦ rw same.0 (omega (arith, rest.1 (omega (arith, same.1))), λ less. absurd (omega (arith, same.1)))
      | inr other ↦ rw other.0 (omega (arith, rest.0), λ less. omega (arith, rest.1 (omega arith)))
    ]

one_colour : (k : ℕ) (o : Option ℕ) → sum_below k (λ d. cond (is_colour d o) 1 0) ≤ cond (is_some o) 1 0
one_colour k None = omega (arith, sum_below_none k)
one_colour k (Some e) = (at_most_once k e).0

total : (k n : ℕ) (f : List (Option ℕ)) → sum_below k (λ d. count_below n (λ t. is_colour d (colour_at f t))) ≤ count_below n (λ t. is_some (colour_at f t))
total k zero f = omega (arith, sum_below_none k)
total k (suc n) f = omega (
  arith,
  sum_below-add k (λ d. cond (is_colour d (colour_at f n)) 1 0) (λ d. count_below n (λ t. is_colour d (colour_at f t))),
  one_colour k (colour_at f n),
  total k n f,
)

pub share : (k c : ℕ) (f : List (Option ℕ)) → ((d : ℕ) → d < k → class_size f c ≤ class_size f d) → class_size f c * k ≤ placed_count f
share k c f least = omega (arith, many_least k (class_size f c) (class_size f) least, total k (length f) f)

-- ---- the first of the smallest among the first n classes

pub record IsLeastBelow (s : Colouring) (n c : ℕ) : Type 0 where
  pub in_range : c < s.colours
  pub least : (d : ℕ) → d < n → class_size s.colour c ≤ class_size s.colour d
  pub first : (d : ℕ) → d < c → class_size s.colour c < class_size s.colour d

pub least_first : (s : Colouring) → 0 < s.colours → IsLeastBelow s 1 0
least_first s some = record {
  in_range = some;
  least = λ d d_in. let zero_is : d ≡ 0 = omega arith in rw zero_is (omega arith);
  first =
      λ d less. absurd (omega arith);
}

pub least_stays : (s : Colouring) (n c : ℕ) → IsLeastBelow s n c → class_size s.colour c ≤ class_size s.colour n → IsLeastBelow s (n + 1) c
least_stays s n c so_far more = record { in_range = so_far.in_range; least = below_more _ _ so_far.least more; first = so_far.first }

pub least_moves : (s : Colouring) (n c : ℕ) → IsLeastBelow s n c → n < s.colours → class_size s.colour n < class_size s.colour c → IsLeastBelow s (n + 1) n
least_moves s n c so_far n_in less = record {
  in_range = n_in;
  least = below_more _ _ (λ d d_in. omega (arith, so_far.least d d_in, less)) (omega arith);
  first = λ d d_in. omega (arith, so_far.least d d_in, less);
}

pub all_least : (s : Colouring) (n c : ℕ) → IsLeastBelow s n c → s.colours ≤ n → IsSmallestClass s c
all_least s n c so_far all = record { is_one = so_far.in_range; least = λ d d_in. so_far.least d (omega arith); first = so_far.first }

-- ---- the links 0 of a row

at_start : (g : List Transfer) (t m : ℕ) (e : End) → m < MAX_MODULES → place_at g t e ≡ m → place_at g t Zero ≡ m
at_start g t m Zero m_in at = at
at_start g t m Three m_in at = let high = answer_high g t in absurd (omega arith)

module _ (s : Colouring) (h : List (Option ℕ)) (c : ℕ) (x : AreCellsOf s.batch s.colours s.colour h) (n : ℕ) (few : n ≤ MAX_MODULES)
    (all : StartBelow s.batch n) where
  row_at : (m : ℕ) → m < n → get_or (take n (drop (c * LINKS) h)) m None ≡ holder_at h c m
  row_at m m_in = get_or-take n (drop (c * LINKS) h) m None m_in ∙ get_or-drop (c * LINKS) h m None

  pub starts_are : AreStarts s c (take n (drop (c * LINKS) h))
  starts_are = record {
    held = λ t at. row_at (place_at s.batch t Zero) (all t (rw (← x.sized) (some_within s.colour t c at))) ∙ x.held t c Zero at;
    back = λ m t at.
        let within = some_within (take n (drop (c * LINKS) h)) m t at in
        let m_in : m < n = omega (arith, length-take n (drop (c * LINKS) h)) in
        let b = x.back c m t (omega arith) (sym (row_at m m_in) ∙ at) in
        (b.0, at_start s.batch t m b.1.0 (omega arith) b.1.1);
  }

-- ---- what is taken back

pub taken_back : (old new : Colouring) (c : ℕ) (row : List (Option ℕ)) (back : List ℕ) → IsSmallestClass old c → AreStarts old c row → back ≡ class_list row
    → new ≡ record old { colours = old.colours - 1; colour = map (without_colour c) old.colour } → IsTakenBack old new back
taken_back old new c row back smallest starts is rest = record {
  c = c;
  smallest = smallest;
  given = rw is (given_just old c row starts);
  distinct = rw is (given_once old c row starts);
  rest = rest;
  few =
      let size : length back ≡ class_size old.colour c = ap length is ∙ (class_list-length row ∙ row_counts old c row starts) in
      rw size (share old.colours c old.colour smallest.least);
}
