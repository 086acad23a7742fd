-- What is over with the last number of a step: a pair of it, or a link is full from then on.
use Rattle.std.proofs.Common.{◌≡◌, ℕ, ◌+◌, ◌-◌, ◌<◌, ◌≤◌, List, [], length, get_or, false, Option, Some, sym, ◌∙◌, subst, inl, inr, arith}
use Rattle.std.specs.Prelude.{Contains}
use Rattle.std.proofs.lemmas.Bool.{cases_Bool, cases_lt, false≢true}
use Rattle.std.proofs.lemmas.Option.{none-some, slice_get_within}
use Rattle.batch.specs.declared.limits.TheConstants.{MAX_MODULES}
use Rattle.batch.specs.declared.transfer.Transfer.{Transfer}
use Rattle.link_graph.specs.declared.link.End.{End}
use Rattle.link_graph.specs.declared.link.End.TheVariants.{Zero, Three}
use Rattle.link_graph.specs.declared.link.Link.{Link}
use Rattle.link_graph.specs.Marks.{members}
use Rattle.steady_schedule.specs.Changes.{are_partners}
use Rattle.steady_schedule.specs.Gathered.{AreGathered}
use Rattle.steady_schedule.specs.Matchings.{partner, AreMatched}
use Rattle.steady_schedule.specs.Needs.{IsUsed, IsOver, ChangesAtNeed}
use Rattle.steady_schedule.specs.Needs.IsOver.{pair_done as pair_over, link_needed as link_over}
use Rattle.steady_schedule.specs.Slots.{StandsIn, AreNumberedFrom, KeepNumbers, LinkHas, IsOverAt, AreAtNeed, JoinsAs, UsesAs, IsOverAs, HaveNeeds}
use Rattle.steady_schedule.specs.Slots.IsOverAt.{pair_done as pair_at, link_needed as link_at}
use Rattle.steady_schedule.specs.Slots.IsOverAs.{pair_done as pair_as, link_needed as link_as}
use Rattle.steady_schedule.specs.Steps.{CanHold, AreTaken, IsTight}
use Rattle.steady_schedule.specs.Steps.IsTight.{all, by_pair, by_zero, by_three}
use Rattle.steady_schedule.specs.Waiting.{waiting, HaveMost}
use Rattle.steady_schedule.proofs.Members.{stands_at, joins_in, joins_out, same_joined}
use Rattle.steady_schedule.proofs.Matchings.{has_low}
use Rattle.steady_schedule.proofs.Steps.{at_pair, fewer, zero_free, three_free, full_joined}
use Rattle.steady_schedule.proofs.Sums.{partner_cases}

-- ---- one step more

pub none_over : (totals remaining slots : List ℕ) (settings : ℕ) → AreAtNeed totals remaining slots settings 0
none_over totals remaining slots settings d lt = absurd (omega arith)

module _ (totals remaining slots remaining_now slots_now : List ℕ) (zeros threes : List (Option ℕ)) (m : AreMatched zeros threes) (settings first k : ℕ)
    (first_in : first ≤ settings) (taken : AreTaken zeros k MAX_MODULES remaining remaining_now) (h : HaveMost remaining (settings - first))
    (can : CanHold remaining zeros threes (settings - first) k) (kept : KeepNumbers totals first remaining slots remaining_now slots_now)
    (now : AreNumberedFrom zeros first MAX_MODULES totals remaining_now slots_now (first + k)) where
  kept_link : (d : ℕ) (end : End) (x : ℕ) → d < first → LinkHas totals remaining slots d end x → LinkHas totals remaining_now slots_now d end x
  kept_link d Zero x lt has = (has.0, kept.old x has.0 d lt has.1)
  kept_link d Three x lt has = (has.0, kept.old has.0 x d lt has.1)

  only_link : (d : ℕ) (end : End) (x : ℕ) → d < first → LinkHas totals remaining_now slots_now d end x → LinkHas totals remaining slots d end x
  only_link d Zero x lt has = (has.0, kept.only x has.0 d lt has.1)
  only_link d Three x lt has = (has.0, kept.only has.0 x d lt has.1)

  -- a pair that has a number of the step is joined
  joined_now : (d u v : ℕ) → first ≤ d → StandsIn totals remaining_now slots_now d u v → partner zeros u ≡ Some v
  joined_now d u v from has = (now.recent u v has.0 has.1 (omega (arith, from, has.2))).1

  -- a full link has each number of the step
  full_has : (d : ℕ) (end : End) (x : ℕ) → x < MAX_MODULES → waiting remaining end x ≡ settings - first → first ≤ d → d < first + k
      → LinkHas totals remaining_now slots_now d end x
  full_has d Zero x x_in full from to = partner_cases (partner zeros x) (LinkHas totals remaining_now slots_now d Zero x)
      (λ none. absurd (omega (arith, (can.each x x_in).zero_out none, full, can.some)))
      (λ y joined. (y, now.each x y d x_in joined from to))
  full_has d Three y y_in full from to = partner_cases (partner threes y) (LinkHas totals remaining_now slots_now d Three y)
      (λ none. absurd (omega (arith, (can.each y y_in).three_out none, full, can.some)))
      (λ x back.
      let joined = (m.each_other x y).1 back in
      (x, now.each x y d (has_low zeros x y m.sized joined) joined from to))

  -- what was over is over
  still_over : (d : ℕ) → d < first → IsOverAt totals remaining slots settings first d → IsOverAt totals remaining_now slots_now settings (first + k) d
  still_over d lt (pair_at u v has none gone) = pair_at u v (kept.old u v d lt has)
      (λ e later has_now. elim (cases_lt e first) [
        | inl before ↦ none e later (kept.only u v e before has_now)
        | inr from ↦ absurd (omega (arith, can.some, gone, (can.each u has.1.zero_in).pair v (joined_now e u v from has_now)))
      ])
      (omega (arith, gone, fewer zeros threes m k remaining remaining_now taken u v has.1.zero_in has.1.three_in))
  still_over d lt (link_at end x x_in unused used full) =
      let full_now : waiting remaining end x ≡ settings - first = omega (arith, full) in
      link_at end x x_in (λ has. unused (only_link d end x lt has))
      (λ e later to. elim (cases_lt e first) [
        | inl before ↦ kept_link e end x before (used e later before)
        | inr from ↦ full_has e end x x_in full_now from to
      ])
      (omega (arith, full, full_joined zeros threes m k remaining remaining_now taken (settings - first) h can end x x_in full_now))

  -- something is over with the last number of the step
  step_over : (d : ℕ) → d + 1 ≡ first + k → d + 1 < settings → IsTight remaining zeros threes (settings - first) k → IsOverAt totals remaining_now slots_now
      settings (first + k) d
  step_over d last lt (all is) = absurd (omega (arith, last, lt, is, first_in))
  step_over d last lt (by_pair x y joined is) =
      pair_at x y (now.each x y d (has_low zeros x y m.sized joined) joined (omega (arith, last, can.some)) (omega (arith, last)))
      (λ e later has. absurd (omega (arith, last, later, has.2, now.numbered.below x y has.0 has.1)))
      (omega (arith, is, at_pair zeros threes m k remaining remaining_now taken x y joined))
  step_over d last lt (by_zero x x_in none is) = link_at Zero x x_in
      (λ has. none-some has.0 (sym none ∙ joined_now d x has.0 (omega (arith, last, can.some)) has.1))
      (λ e later to. absurd (omega (arith, last, later, to)))
      (omega (arith, is, first_in, zero_free zeros threes m k remaining remaining_now taken x x_in none))
  step_over d last lt (by_three y y_in none is) = link_at Three y y_in
      (λ has. none-some has.0 (sym none ∙ (m.each_other has.0 y).0 (joined_now d has.0 y (omega (arith, last, can.some)) has.1)))
      (λ e later to. absurd (omega (arith, last, later, to)))
      (omega (arith, is, first_in, three_free zeros threes m k remaining remaining_now taken y y_in none))

  pub still_needed : AreAtNeed totals remaining slots settings first → AreAtNeed totals remaining_now slots_now settings (first + k)
  still_needed so_far d lt within = elim (cases_lt d first) [
    | inl before ↦ elim (so_far d before within) [
      | inl same ↦ inl (
        omega (arith, same.0),
        λ u v. (
          λ has. kept.old u v (d + 1) same.0 ((same.1 u v).0 (kept.only u v d before has)),
          λ has. kept.old u v d before ((same.1 u v).1 (kept.only u v (d + 1) same.0 has)),
        ),
      )
      | inr is ↦ inr (still_over d before is)
    ]
    | inr from ↦ elim (cases_lt (d + 1) (first + k)) [
      | inl inside ↦ inl (
        inside,
        λ u v. (
          λ has. now.each u v (d + 1) has.1.zero_in (joined_now d u v from has) (omega (arith, from)) inside,
          λ has. now.each u v d has.1.zero_in (joined_now (d + 1) u v (omega (arith, from)) has) from lt,
        ),
      )
      | inr last ↦ inr (step_over d (omega (arith, last, lt)) within can.tight)
    ]
  ]

-- ---- the settings

module _ (batch : List Transfer) (numbers : List ℕ) (settings : List (List ℕ)) (count : ℕ) (sized : length numbers ≡ length batch)
    (g : AreGathered numbers count settings) where
  joined_no_more : (d u v : ℕ) → (JoinsAs batch numbers d u v → ⊥) → are_partners (members batch (get_or settings d [])) u v ≡ false
  joined_no_more d u v none = elim (cases_Bool (are_partners (members batch (get_or settings d [])) u v)) [
    | inl some ↦ absurd (none (joins_out batch numbers settings count sized g d u v some))
    | inr is ↦ is
  ]

  used_in : (d : ℕ) (link : Link) → UsesAs batch numbers d link → IsUsed batch (get_or settings d []) link
  used_in d link u = (
    u.t,
    subst (λ (k : ℕ). Contains (get_or settings k []) u.t) u.number
        (stands_at batch numbers settings count sized g u.t (slice_get_within batch u.t u.used.0 u.used.1)),
    u.used,
  )

  used_out : (d : ℕ) (link : Link) → IsUsed batch (get_or settings d []) link → UsesAs batch numbers d link
  used_out d link is = record { t = is.0; used = is.2; number = (g.within d is.0 is.1).1 }

  over_gathered : (d : ℕ) → IsOverAs batch count numbers d → IsOver batch settings d
  over_gathered d (pair_as u v j none) = pair_over u v (joins_in batch numbers settings count sized g d u v j)
      (λ e later to. joined_no_more e u v (none e later))
  over_gathered d (link_as link unused used) = link_over link (λ is. unused (used_out d link is))
      (λ e later to. used_in e link (used e later (omega (arith, to, g.sized))))

  pub needs_gathered : HaveNeeds batch count numbers → ChangesAtNeed batch settings
  needs_gathered needs d lt differ = elim (needs d (omega (arith, lt, g.sized))) [
    | inl same ↦ absurd (false≢true (sym differ ∙ same_joined batch numbers settings count sized g d (d + 1) same))
    | inr is ↦ over_gathered d is
  ]
