-- The transfers that stand in a setting.
use Rattle.std.proofs.Common.{◌≡◌, ◌==◌, ℕ, suc, ◌<◌, List, [], ◌∷◌, length, get_or, slice_get, Bool, true, ◌&&◌, Some, refl, ap, ◌∙◌, inl, inr, eq-eqb, arith}
use Rattle.std.specs.Prelude.{Contains}
use Rattle.std.specs.List.{list_any}
use Rattle.std.proofs.lemmas.Bool.{cases_lt, and_from, or_cases, or_left, or_right, false≢true}
use Rattle.std.proofs.lemmas.List.Sums.{sum_by-cons}
use Rattle.std.proofs.lemmas.Option.{slice_get_cases}
use Rattle.batch.proofs.Lists.{at_cons, count_of}
use Rattle.batch.specs.declared.transfer.Transfer.{Transfer}
use Rattle.link_graph.specs.Marks.{members}
use Rattle.link_graph.specs.Schedules.{times}
use Rattle.link_graph.proofs.Once.{stands_from_count}
use Rattle.steady_schedule.specs.Changes.{are_partners}

pub member_any : (batch : List Transfer) (setting : List ℕ) (p : Transfer → Bool) (t : ℕ) (x : Transfer) → Contains setting t → slice_get batch t ≡ Some x → p x
    ≡ true → list_any p (members batch setting) ≡ true
member_any batch [] p t x stands here passes = absurd (omega (arith, stands.1))
member_any batch (u ∷ us) p t x stands here passes = elim (at_cons u t us stands) [
  | inl e ↦ rw (ap (λ (n : ℕ). slice_get batch n) e ∙ here) (or_left (p x) (list_any p (members batch us)) passes)
  | inr later ↦
      let rest = member_any batch us p t x later here passes in
      elim (slice_get_cases batch u).1 [
        | inl q ↦ rw q.2 (or_right (p q.0) (list_any p (members batch us)) rest)
        | inr q ↦ rw q.1 rest
      ]
]

abbrev pub Member : List Transfer → List ℕ → (Transfer → Bool) → Type 0
Member batch setting p = (t : ℕ) × (x : Transfer) × Contains setting t × (slice_get batch t ≡ Some x) × (p x ≡ true)

later_member : (batch : List Transfer) (u : ℕ) (us : List ℕ) (p : Transfer → Bool) → Member batch us p → Member batch (u ∷ us) p
later_member batch u us p m = (m.0, m.1, (suc m.2.0, omega (arith, m.2.1), m.2.2), m.3, m.4)

pub any_member : (batch : List Transfer) (setting : List ℕ) (p : Transfer → Bool) → list_any p (members batch setting) ≡ true → Member batch setting p
any_member batch [] p any = absurd (false≢true any)
any_member batch (u ∷ us) p any = elim (slice_get_cases batch u).1 [
  | inl q ↦ elim (or_cases (p q.0) (list_any p (members batch us)) (rw q.2 at any)) [
    | inl passes ↦ (u, q.0, (0, omega arith, refl), q.2, passes)
    | inr rest ↦ later_member batch u us p (any_member batch us p rest)
  ]
  | inr q ↦ later_member batch u us p (any_member batch us p (rw q.1 at any))
]

-- the pair of a transfer that stands there
pub pair_stands : (batch : List Transfer) (setting : List ℕ) (t : ℕ) (x : Transfer) → Contains setting t → slice_get batch t ≡ Some x
    → are_partners (members batch setting) x.initiator x.responder ≡ true
pair_stands batch setting t x stands here =
    member_any batch setting (λ y. y.initiator == x.initiator && y.responder == x.responder) t x stands here
    (and_from (x.initiator == x.initiator) (x.responder == x.responder) (eq-eqb x.initiator x.initiator refl) (eq-eqb x.responder x.responder refl))

pub some_stands : (t : ℕ) (settings : List (List ℕ)) → 0 < times t settings → (k : ℕ) × (k < length settings) × Contains (get_or settings k []) t
some_stands t [] some = absurd (omega arith)
some_stands t (setting ∷ rest) some = elim (cases_lt 0 (count_of t setting)) [
  | inl here ↦ (0, omega arith, stands_from_count t setting here)
  | inr none ↦ let r = some_stands t rest (omega (arith, some, none, sum_by-cons (count_of t) setting rest)) in (suc r.0, omega (arith, r.1), r.2)
]
