-- Each transfer stands once: told by counts, and by what stands in the settings joined end to end.
use Rattle.std.proofs.Common.{◌≡◌, ◌≢◌, ℕ, suc, zero, ◌+◌, ◌<◌, ◌≤◌, List, [], ◌∷◌, length, get_or, All, refl, sym, subst, ◌∙◌, arith, inl, inr}
use Rattle.std.specs.Prelude.{Contains}
use Rattle.std.specs.List.{concat}
use Rattle.std.proofs.lemmas.Bool.Decides.{eqb_tells}
use Rattle.std.proofs.lemmas.List.Elements.{All-append, All-contains, All-head, All-tail, All-nil, All-cons, Contains-get_or}
use Rattle.std.proofs.lemmas.List.Sums.{sum_by-cons, sum_by-append}
use Rattle.std.proofs.lemmas.Bool.{cases_lt}
use Rattle.batch.specs.declared.transfer.Transfer.{Transfer}
use Rattle.batch.proofs.Lists.{at_cons}
pub use Rattle.batch.proofs.Lists.{count_of as standings}
use Rattle.link_graph.specs.Uses.{IsMatching}
use Rattle.link_graph.specs.Schedules.{times, IsScheduleOf}
use Rattle.link_graph.specs.Certificates.{AreDistinct}
use Rattle.link_graph.specs.Checks.{AreKnown, StandOnce}
use Rattle.link_graph.proofs.Sums.{hit, hit_same, hit_other, later, first_with}
use Rattle.link_graph.proofs.Firsts.{all_left, all_right}

-- `standings t xs` is how often t stands in the list
standings-cons : (t x : ℕ) (xs : List ℕ) → standings t (x ∷ xs) ≡ hit t x + standings t xs
standings-cons t x xs = sum_by-cons (hit t) x xs

pub times_concat : (t : ℕ) (settings : List (List ℕ)) → times t settings ≡ standings t (concat settings)
times_concat t [] = refl
times_concat t (s ∷ settings) = omega (
  arith,
  sum_by-cons (λ setting. standings t setting) s settings,
  sum_by-append (hit t) s (concat settings),
  times_concat t settings,
)

pub stands_from_count : (t : ℕ) (xs : List ℕ) → 0 < standings t xs → Contains xs t
stands_from_count t [] some = absurd (omega arith)
stands_from_count t (x ∷ xs) some = elim (eqb_tells x t) [
  | inl p ↦ (0, omega arith, p.1)
  | inr p ↦ let rest = stands_from_count t xs (omega (arith, standings-cons t x xs, hit_other t x p.1)) in (suc rest.0, omega (arith, rest.1), rest.2)
]

none_stands : (t : ℕ) (xs : List ℕ) → All (λ u. t ≢ u) xs → standings t xs ≡ 0
none_stands t [] none = refl
none_stands t (x ∷ xs) none =
    let other : x ≢ t = λ e. All-head (λ u. t ≢ u) x xs none (sym e) in
    omega (arith, standings-cons t x xs, hit_other t x other, none_stands t xs (All-tail (λ u. t ≢ u) x xs none))

pub once_from_distinct : (t : ℕ) (xs : List ℕ) → AreDistinct xs → Contains xs t → standings t xs ≡ 1
once_from_distinct t [] distinct stands = absurd (omega (arith, stands.1))
once_from_distinct t (x ∷ xs) distinct stands =
    let others = first_with (λ a b. a ≢ b) x xs distinct in
    elim (at_cons x t xs stands) [
      | inl e ↦ omega (arith, standings-cons t x xs, hit_same t x e, none_stands t xs (subst (λ (v : ℕ). All (λ u. v ≢ u) xs) e others))
      | inr rest ↦ omega (
        arith,
        standings-cons t x xs,
        hit_other t x (λ e. All-contains (λ u. x ≢ u) xs t others rest e),
        once_from_distinct t xs (later (λ a b. a ≢ b) x xs distinct) rest,
      )
    ]

pub at_most_once : (xs : List ℕ) (u : ℕ) → AreDistinct xs → standings u xs ≤ 1
at_most_once xs u distinct = elim (cases_lt 0 (standings u xs)) [
  | inl some ↦ omega (arith, once_from_distinct u xs distinct (stands_from_count u xs some))
  | inr none ↦ omega arith
]

one_standing : (t : ℕ) (xs : List ℕ) (i d : ℕ) → i < length xs → get_or xs i d ≡ t → 0 < standings t xs
one_standing t [] i d lt at = absurd (omega arith)
one_standing t (x ∷ xs) zero d lt at = omega (arith, standings-cons t x xs, hit_same t x at)
one_standing t (x ∷ xs) (suc i) d lt at = omega (arith, standings-cons t x xs, one_standing t xs i d (omega arith) at)

two_standings : (t : ℕ) (xs : List ℕ) (i j d : ℕ) → i < j → j < length xs → get_or xs i d ≡ t → get_or xs j d ≡ t → 1 < standings t xs
two_standings t [] i j d lt within one other = absurd (omega arith)
two_standings t (x ∷ xs) zero zero d lt within one other = absurd (omega arith)
two_standings t (x ∷ xs) zero (suc j) d lt within one other = omega (arith, standings-cons t x xs, hit_same t x one, one_standing t xs j d (omega arith) other)
two_standings t (x ∷ xs) (suc i) zero d lt within one other = absurd (omega arith)
two_standings t (x ∷ xs) (suc i) (suc j) d lt within one other =
    omega (arith, standings-cons t x xs, two_standings t xs i j d (omega arith) (omega arith) one other)

pub distinct_from_once : (xs : List ℕ) → ((t : ℕ) → Contains xs t → standings t xs ≤ 1) → AreDistinct xs
distinct_from_once xs once i j d lt within same =
    let few : standings (get_or xs j d) xs ≤ 1 = once (get_or xs j d) (Contains-get_or xs j d within) in
    omega (arith, two_standings (get_or xs j d) xs i j d lt within same refl)

all_concat : (P : ℕ → Type 0) (settings : List (List ℕ)) → All (All P) settings → All P (concat settings)
all_concat P [] all = All-nil P
all_concat P (s ∷ settings) all = All-append P s (concat settings) (All-head (All P) s settings all) (all_concat P settings (All-tail (All P) s settings all))

concat_all : (P : ℕ → Type 0) (settings : List (List ℕ)) → All P (concat settings) → All (All P) settings
concat_all P [] all = All-nil (All P)
concat_all P (s ∷ settings) all = All-cons (All P) s settings (all_left P s (concat settings) all) (concat_all P settings (all_right P s (concat settings) all))

-- ---- a schedule, in the checker's words

pub schedule_is : (batch : List Transfer) (settings : List (List ℕ)) → AreKnown batch settings → AreDistinct (concat settings)
    → ((t : ℕ) → t < length batch → Contains (concat settings) t) → All (IsMatching batch) settings → IsScheduleOf batch settings
schedule_is batch settings known distinct every matchings = record {
  matchings = matchings;
  once = λ t lt. times_concat t settings ∙ once_from_distinct t (concat settings) distinct (every t lt);
  no_other = concat_all (λ t. t < length batch) settings known;
}

pub is_known : (batch : List Transfer) (settings : List (List ℕ)) → IsScheduleOf batch settings → AreKnown batch settings
is_known batch settings s = all_concat (λ t. t < length batch) settings s.no_other

pub is_once : (batch : List Transfer) (settings : List (List ℕ)) → IsScheduleOf batch settings → StandOnce batch settings
is_once batch settings s = record {
  distinct = distinct_from_once (concat settings)
      (λ t stands. omega
      (arith, times_concat t settings, s.once t (All-contains (λ u. u < length batch) (concat settings) t (is_known batch settings s) stands)));
  every = λ t lt. stands_from_count t (concat settings) (omega (arith, times_concat t settings, s.once t lt));
}
