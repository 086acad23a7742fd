-- The easy half of König's theorem. Each setting holds at most one of the transfers that use a
-- link, so a schedule has at least as many settings as these.
use Rattle.std.proofs.Common.{◌≡◌, ◌≢◌, ℕ, ◌≤◌, List, [], ◌∷◌, length, Option, Some, None, refl, sym, subst, ◌∙◌, arith, inl, inr, ◌⊎◌}
use Rattle.std.specs.Prelude.{sum_by, count_by, AllPairs, All, ◌==◌}
use Rattle.std.specs.List.{AllByRecursion}
use Rattle.std.proofs.lemmas.Bool.Decides.{eqb_tells}
use Rattle.std.proofs.lemmas.List.Elements.{recursion_from_All}
use Rattle.std.proofs.lemmas.List.Sums.{sum_by-cons}
use Rattle.batch.specs.declared.transfer.Transfer.{Transfer}
use Rattle.link_graph.specs.declared.link.Link.{Link}
use Rattle.link_graph.specs.Uses.{Uses, AreApart, IsMatching}
use Rattle.link_graph.specs.Schedules.{times, IsScheduleOf}
use Rattle.link_graph.specs.Certificates.{Naming, IsShortest, CertifiesBy, IsCertificate}
use Rattle.link_graph.proofs.Users.{used_within}
use Rattle.link_graph.proofs.Sums.{hit, hit_same, hit_other, swap, sum_same, sum_at_most, sum_ones, sum_zeros, later, first_with, each}

-- how often u is among the named
among : List ℕ → ℕ → ℕ
among named u = sum_by (λ t. hit t u) named

none_among : (named : List ℕ) (u : ℕ) → AllByRecursion (λ t. u ≢ t) named → among named u ≡ 0
unfolding among
none_among named u h = sum_zeros (λ t. hit t u) named (each (λ t. u ≢ t) (λ t. hit t u ≡ 0) (λ t ne. hit_other t u ne) named h)

-- u is none of the named, or is one and uses what they all use
among_cases : (P : ℕ → Type 0) (named : List ℕ) (u : ℕ) → AllByRecursion P named → AllPairs (λ t u. t ≢ u) named → (among named u ≡ 0)
    ⊎ ((among named u ≡ 1) × P u)
unfolding among
among_cases P [] u all distinct = inl refl
among_cases P (t ∷ ts) u all distinct =
    elim (eqb_tells u t) [
      | inl p ↦
          let others = recursion_from_All (λ x. t ≢ x) ts (first_with (λ a b. a ≢ b) t ts distinct) in
          let zero = none_among ts u (each (λ x. t ≢ x) (λ x. u ≢ x) (λ x ne e. ne (sym p.1 ∙ e)) ts others) in
          inr (omega (arith, sum_by-cons (λ t. hit t u) t ts, hit_same t u p.1, zero), subst P (sym p.1) all.0)
      | inr p ↦
          elim (among_cases P ts u all.1 (later (λ a b. a ≢ b) t ts distinct)) [
            | inl zero ↦ inl (omega (arith, sum_by-cons (λ t. hit t u) t ts, hit_other t u p.1, zero))
            | inr one ↦ inr (omega (arith, sum_by-cons (λ t. hit t u) t ts, hit_other t u p.1, one.0), one.1)
          ]
    ]

-- where u uses the link, nothing apart from it does, and so nothing apart from it is named
rest_zero : (batch : List Transfer) (link : Link) (named : List ℕ) (u : ℕ) (setting : List ℕ) → AllByRecursion (λ t. Uses batch t link) named
    → AllPairs (λ t u. t ≢ u) named → Uses batch u link → AllByRecursion (AreApart batch u) setting → sum_by (among named) setting ≡ 0
rest_zero batch link named u [] all distinct uses apart = refl
rest_zero batch link named u (x ∷ xs) all distinct uses apart =
    elim (among_cases (λ t. Uses batch t link) named x all distinct) [
      | inl zero ↦ omega (arith, sum_by-cons (among named) x xs, zero, rest_zero batch link named u xs all distinct uses apart.1)
      | inr one ↦ absurd (apart.0.none_common link uses one.1)
    ]

-- a setting holds at most one of them
one_in_setting : (batch : List Transfer) (link : Link) (named : List ℕ) (setting : List ℕ) → AllByRecursion (λ t. Uses batch t link) named
    → AllPairs (λ t u. t ≢ u) named → IsMatching batch setting → sum_by (among named) setting ≤ 1
one_in_setting batch link named [] all distinct matching = omega arith
one_in_setting batch link named (x ∷ xs) all distinct matching =
    elim (among_cases (λ t. Uses batch t link) named x all distinct) [
      | inl zero ↦ omega (arith, sum_by-cons (among named) x xs, zero, one_in_setting batch link named xs all distinct (later (AreApart batch) x xs matching))
      | inr one ↦ omega (
        arith,
        sum_by-cons (among named) x xs,
        one.0,
        rest_zero batch link named x xs all distinct one.1
            (recursion_from_All (AreApart batch x) xs (first_with (AreApart batch) x xs matching)),
      )
    ]

-- the named stand once each
total : (batch : List Transfer) (link : Link) (named : List ℕ) (settings : List (List ℕ)) → AllByRecursion (λ t. Uses batch t link) named
    → IsScheduleOf batch settings → sum_by (λ t. times t settings) named ≡ length named
total batch link named settings all schedule =
    sum_ones (λ t. times t settings) named
    (each (λ t. Uses batch t link) (λ t. times t settings ≡ 1) (λ t uses. schedule.once t (used_within batch t link uses)) named all)

-- counted by settings
by_settings : (named : List ℕ) (settings : List (List ℕ)) → sum_by (λ t. times t settings) named ≡ sum_by (λ setting. sum_by (among named) setting) settings
unfolding among
by_settings named settings =
    swap (λ t setting. count_by (λ u. u == t) setting) named settings
    ∙ sum_same (λ setting. sum_by (λ t. count_by (λ u. u == t) setting) named) (λ setting. sum_by (among named) setting) settings
    (λ setting. swap (λ t u. hit t u) named setting)

pub at_least : (batch : List Transfer) (link : Link) (named : List ℕ) (settings : List (List ℕ)) → All (λ t. Uses batch t link) named
    → AllPairs (λ t u. t ≢ u) named → IsScheduleOf batch settings → length named ≤ length settings
at_least batch link named settings all distinct schedule =
    let uses = recursion_from_All (λ t. Uses batch t link) named all in
    let most = sum_at_most (λ s. sum_by (among named) s) settings
    (each (IsMatching batch) (λ s. sum_by (among named) s ≤ 1) (λ s matching. one_in_setting batch link named s uses distinct matching) settings
    (recursion_from_All (IsMatching batch) settings schedule.matchings)) in
    omega (arith, most, total batch link named settings uses schedule, by_settings named settings)

certified_by : (batch : List Transfer) (settings : List (List ℕ)) (link : Option Link) (named : List ℕ) → IsScheduleOf batch settings
    → CertifiesBy batch settings link named → IsShortest batch settings
certified_by batch settings None named schedule c = record { schedule = schedule; least = λ other is. rw c.no_settings (omega arith) }
certified_by batch settings (Some link) named schedule c =
    record { schedule = schedule; least = λ other is. omega (arith, at_least batch link named other c.all_use c.distinct is, c.many) }

pub certified : (batch : List Transfer) (settings : List (List ℕ)) (named : Naming) → IsScheduleOf batch settings → IsCertificate batch settings named
    → IsShortest batch settings
certified batch settings named = certified_by batch settings named.link named.transfers
