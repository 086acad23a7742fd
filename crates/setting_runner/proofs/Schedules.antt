-- The numbers of a schedule's settings, one setting after another.
use Rattle.std.proofs.Common.{◌≡◌, ◌<◌, ◌≤◌, ◌+◌, ◌-◌, inl, inr, ℕ, zero, suc, List, [], ◌∷◌, ◌++◌, length, take, drop, get_or, refl, sym, ap, ◌∙◌, arith, subst, length-append, append_assoc}
use Rattle.std.specs.Prelude.{All, sum_by}
use Rattle.std.specs.List.{concat, range_with_len, AllByRecursion}
use Rattle.std.proofs.lemmas.Bool.{cases_lt}
use Rattle.std.proofs.lemmas.List.{get_or_append_left}
use Rattle.batch.specs.declared.transfer.Transfer.{Transfer}
use Rattle.module_memory.specs.Core.{IsSetting}
use Rattle.module_memory.proofs.SettingLaws.{in_more}
use Rattle.link_graph.specs.Schedules.{IsScheduleOf}
use Rattle.link_graph.specs.Certificates.{AreDistinct}
use Rattle.link_graph.proofs.Once.{is_known, is_once, once_from_distinct}
use Rattle.link_graph.proofs.Sums.{hit, swap, sum_ones}
use Rattle.link_graph.proofs.Firsts.{all_left, all_right}
use Rattle.switch_settings.proofs.Counting.{each_once, length_range}

-- the numbers before a setting, those of the setting, and those after it
pub split_concat : (settings : List (List ℕ)) (k : ℕ) → k < length settings → concat settings ≡ concat (take k settings) ++ get_or settings k []
    ++ concat (drop (k + 1) settings)
split_concat [] k h = absurd (omega arith)
split_concat (s ∷ ss) zero h = refl
split_concat (s ∷ ss) (suc k) h =
    let e : suc k + 1 ≡ suc (k + 1) = omega arith in
    ap (λ (x : List ℕ). s ++ x) (split_concat ss k (omega arith))
    ∙ sym (append_assoc s (concat (take k ss) ++ get_or ss k []) (concat (drop (k + 1) ss)))
    ∙ ap (λ (x : List ℕ). x ++ concat (drop (k + 1) ss)) (sym (append_assoc s (concat (take k ss)) (get_or ss k [])))
    ∙ ap (λ (x : ℕ). ((s ++ concat (take k ss)) ++ get_or ss k []) ++ concat (drop x (s ∷ ss))) (sym e)

distinct_left : (xs ys : List ℕ) → AreDistinct (xs ++ ys) → AreDistinct xs
distinct_left xs ys h i j d l m e =
    h i j d l (omega (arith, length-append xs ys)) (get_or_append_left xs ys d i (omega arith) ∙ e ∙ sym (get_or_append_left xs ys d j m))

distinct_right : (xs ys : List ℕ) → AreDistinct (xs ++ ys) → AreDistinct ys
distinct_right xs ys h i j d l m e =
    h (length xs + i) (length xs + j) d (omega arith) (omega (arith, length-append xs ys)) (in_more xs ys i d ∙ e ∙ sym (in_more xs ys j d))

setting_from : (batch : List Transfer) (xs : List ℕ) → All (λ t. t < length batch) xs → AreDistinct xs → IsSetting batch xs
setting_from batch xs known distinct = record {
  known = known;
  distinct = λ i j hi hj e. elim (cases_lt i j) [
    | inl less ↦ absurd (distinct i j 0 less hj e)
    | inr up ↦ elim (cases_lt j i) [
      | inl less ↦ absurd (distinct j i 0 less hi (sym e))
      | inr down ↦ omega arith
    ]
  ];
}

-- the numbers of a setting, those up to it, and all numbers
pub record AreSettings (batch : List Transfer) (settings : List (List ℕ)) (k : ℕ) : Type 0 where
  pub own : IsSetting batch (get_or settings k [])
  pub up_to : IsSetting batch (concat (take k settings) ++ get_or settings k [])

pub are_settings : (batch : List Transfer) (settings : List (List ℕ)) (k : ℕ) → IsScheduleOf batch settings → k < length settings → AreSettings batch settings k
are_settings batch settings k s h =
    let before = concat (take k settings) in
    let numbers : List ℕ = get_or settings k [] in
    let after = concat (drop (k + 1) settings) in
    let P : ℕ → Type 0 = λ t. t < length batch in
    let known : All P (before ++ numbers ++ after) = subst (All P) (split_concat settings k h) (is_known batch settings s) in
    let distinct : AreDistinct (before ++ numbers ++ after) = subst AreDistinct (split_concat settings k h) (is_once batch settings s).distinct in
    let known_front = all_left P (before ++ numbers) after known in
    let distinct_front = distinct_left (before ++ numbers) after distinct in
    record {
      own = setting_from batch numbers (all_right P before numbers known_front) (distinct_right before numbers distinct_front);
      up_to = setting_from batch (before ++ numbers) known_front distinct_front;
    }

pub all_settings : (batch : List Transfer) (settings : List (List ℕ)) → IsScheduleOf batch settings → IsSetting batch (concat settings)
all_settings batch settings s = setting_from batch (concat settings) (is_known batch settings s) (is_once batch settings s).distinct

-- ---- a schedule has as many numbers as the batch has transfers

each_stands : (xs : List ℕ) (a n : ℕ) → ((t : ℕ) → a ≤ t → t < a + n → sum_by (hit t) xs ≡ 1) → AllByRecursion (λ t. sum_by (hit t) xs ≡ 1) (range_with_len a n)
each_stands xs a zero h = tt
each_stands xs a (suc n) h = (h a (omega arith) (omega arith), each_stands xs (a + 1) n (λ t l m. h t (omega arith) (omega arith)))

pub numbers_are_counted : (batch : List Transfer) (settings : List (List ℕ)) → IsScheduleOf batch settings → length (concat settings) ≡ length batch
numbers_are_counted batch settings s =
    let xs = concat settings in
    let n = length batch in
    let once = is_once batch settings s in
    let rows = sum_ones (λ (t : ℕ). sum_by (hit t) xs) (range_with_len 0 n)
    (each_stands xs 0 n (λ t l m. once_from_distinct t xs once.distinct (once.every t (omega arith)))) in
    let columns = sum_ones (λ (u : ℕ). sum_by (λ t. hit t u) (range_with_len 0 n)) xs (each_once xs n (is_known batch settings s)) in
    let same = swap hit (range_with_len 0 n) xs in
    omega (arith, rows, columns, same, length_range 0 n)

-- what is done is at most all
pub front_few : (settings : List (List ℕ)) (k : ℕ) → length (concat (take k settings)) ≤ length (concat settings)
front_few [] zero = omega arith
front_few [] (suc k) = omega arith
front_few (s ∷ ss) zero = omega arith
front_few (s ∷ ss) (suc k) = omega (arith, front_few ss k, length-append s (concat (take k ss)), length-append s (concat ss))
