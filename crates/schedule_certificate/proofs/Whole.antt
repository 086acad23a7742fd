-- The part of all transfers.
use Rattle.std.proofs.Common.{◌≡◌, ℕ, zero, suc, ◌<◌, ◌≤◌, max, List, [], ◌∷◌, ◌++◌, length, get_or, take, slice_get, Some, All, inr, refl, sym, ap, subst, ◌∙◌, arith, add-one}
use Rattle.std.specs.Prelude.{Contains}
use Rattle.std.specs.List.{range_with_len}
use Rattle.std.proofs.lemmas.List.{take_more, take_all}
use Rattle.std.proofs.lemmas.List.Sums.{sum_by-cons}
use Rattle.std.proofs.lemmas.Option.{slice_get-get_or}
use Rattle.std.proofs.lemmas.List.FromFn.{length-range_with_len, get_or-range_with_len}
use Rattle.std.proofs.lemmas.List.Elements.{All-head}
use Rattle.batch.specs.declared.transfer.Transfer.{Transfer}
use Rattle.link_graph.specs.Marks.{members}
use Rattle.link_graph.specs.Schedules.{IsScheduleOf}
use Rattle.link_graph.specs.Uses.{start_link}
use Rattle.link_graph.proofs.Users.{use_of, use_yes, uses_few}
use Rattle.link_graph.proofs.Sharing.{some_more}
use Rattle.batch.specs.Overlap.{no_transfer}
use Rattle.alternating_path.specs.Colouring.{Colouring, AllPlaced}
use Rattle.alternating_path.specs.Classes.{ColouredSettings, AreClassesOf}
use Rattle.schedule_certificate.specs.Reinsertions.{AreFew}
use Rattle.schedule_certificate.specs.Parts.{IsPart, IsDegree, IsColouredPart}
use Rattle.schedule_certificate.specs.Plans.{IsColoured}
use Rattle.schedule_certificate.specs.Steps.{UsesAtMost, HasCommonLink}
use Rattle.schedule_certificate.proofs.Levels.{degree_fits}

abbrev all_of : List Transfer → List ℕ
all_of batch = range_with_len 0 (length batch)

all_at : (n i d : ℕ) → i < n → get_or (range_with_len 0 n) i d ≡ i
all_at n i d lt = omega (arith, get_or-range_with_len 0 n i d lt)

pub all_part : (batch : List Transfer) → IsPart batch (all_of batch)
all_part batch = record {
  known = λ k d lt. omega (
    arith,
    length-range_with_len 0 (length batch),
    all_at (length batch) k d (omega (arith, lt, length-range_with_len 0 (length batch))),
  );
  distinct = λ i j d lt within same. omega (
    arith,
    same,
    length-range_with_len 0 (length batch),
    all_at (length batch) i d (omega (arith, lt, within, length-range_with_len 0 (length batch))),
    all_at (length batch) j d (omega (arith, within, length-range_with_len 0 (length batch))),
  );
}

in_all : (batch : List Transfer) (t : ℕ) → t < length batch → Contains (all_of batch) t
in_all batch t lt = (t, omega (arith, lt, length-range_with_len 0 (length batch)), all_at (length batch) t t lt)

-- ---- its transfers are those of the batch

members_upto : (batch : List Transfer) (i : ℕ) → i ≤ length batch → members batch (take i (all_of batch)) ≡ take i batch
members_upto batch zero le = refl
members_upto batch (suc i) le =
    let lt : i < length batch = omega arith in
    let x : Transfer = get_or batch i no_transfer in
    let number : get_or (all_of batch) i 0 ≡ i = all_at (length batch) i 0 lt in
    let here : slice_get batch (get_or (all_of batch) i 0) ≡ Some x = ap (slice_get batch) number ∙ slice_get-get_or batch i no_transfer lt in
    let more : members batch (take (suc i) (all_of batch)) ≡ members batch (take i (all_of batch)) ++ x ∷ [] = rw (add-one i)
    at (some_more batch (all_of batch) i 0 x (omega (arith, lt, length-range_with_len 0 (length batch))) here) in
    let longer : take (suc i) batch ≡ take i batch ++ x ∷ [] = rw (add-one i) at (take_more batch i no_transfer lt) in
    more ∙ (ap (λ (xs : List Transfer). xs ++ x ∷ []) (members_upto batch i (omega arith)) ∙ sym longer)

pub all_members : (batch : List Transfer) → members batch (all_of batch) ≡ batch
all_members batch =
    ap (members batch) (sym (take_all (length batch) (all_of batch) (omega (arith, length-range_with_len 0 (length batch)))))
    ∙ (members_upto batch (length batch) (omega arith) ∙ take_all (length batch) batch (omega arith))

-- ---- its colouring is a schedule

no_settings : (settings : List (List ℕ)) → All (λ setting. 0 < length setting) settings → All (All (λ t. t < 0)) settings → length settings ≤ 0
no_settings [] some none = omega arith
no_settings (s ∷ settings) some none =
    absurd (omega (arith, All-head (All (λ t. t < 0)) s settings none 0 0 (All-head (λ setting. 0 < length setting) s settings some)))

count_few : (batch : List Transfer) (settings : List (List ℕ)) (d : ℕ) → IsDegree batch d → IsScheduleOf batch settings → All (λ setting. 0 < length setting)
    settings → length settings ≤ max 1 d → length settings ≤ d
count_few [] settings d degree schedule some few = omega (arith, no_settings settings some schedule.no_other)
count_few (x ∷ xs) settings d degree schedule some few = omega (
  arith,
  degree.most (start_link x),
  sum_by-cons (use_of (start_link x)) x xs,
  use_yes (start_link x) x refl,
)

pub all_coloured : (batch : List Transfer) (table : Colouring) (coloured : ColouredSettings) → IsColouredPart batch (all_of batch) table
    → AreClassesOf table.colour coloured.settings → coloured.inserted ≡ table.inserted → length coloured.settings ≤ table.colours
    → (AllPlaced table → IsScheduleOf table.batch coloured.settings) → IsColoured batch coloured
all_coloured batch table coloured c classes inserted few schedule_if =
    let every : AllPlaced table = λ t lt. (c.placed t).1 (in_all batch t (subst (λ (b : List Transfer). t < length b) c.batch_is lt)) in
    let schedule : IsScheduleOf batch coloured.settings = subst (λ (b : List Transfer). IsScheduleOf b coloured.settings) c.batch_is (schedule_if every) in
    let degree : IsDegree batch c.degree = subst (λ (xs : List Transfer). IsDegree xs c.degree) (all_members batch) c.is_degree in
    record {
      degree = c.degree;
      is_degree = degree;
      schedule = schedule;
      count = count_few batch coloured.settings c.degree degree schedule classes.none_empty (omega (arith, few, c.colours_is));
      none_empty = classes.none_empty;
      ascending = classes.ascending;
      by_least = classes.by_least;
      few = subst (λ (n : ℕ). AreFew n c.degree coloured.inserted) (length-range_with_len 0 (length batch))
          (subst (AreFew (length (all_of batch)) c.degree) (sym inserted) c.few);
    }

-- the table of all transfers has few enough colours
pub colours_fit : (batch : List Transfer) (table : Colouring) (most : ℕ) → 1 ≤ most → UsesAtMost batch most → IsColouredPart batch (all_of batch) table
    → (table.colours ≤ most) × (table.batch ≡ batch)
colours_fit batch table most some low c =
    let degree : IsDegree batch c.degree = subst (λ (xs : List Transfer). IsDegree xs c.degree) (all_members batch) c.is_degree in
    (omega (arith, c.colours_is, degree_fits batch c.degree most degree low, some), c.batch_is)

-- where one link is in all, they are the degree
pub all_share : (batch : List Transfer) → HasCommonLink batch → IsDegree (members batch (all_of batch)) (length (all_of batch))
all_share batch one = rw (all_members batch, length-range_with_len 0 (length batch)) (record { most = uses_few batch; reached = inr one })
