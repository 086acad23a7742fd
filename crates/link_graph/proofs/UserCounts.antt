-- Distinct transfers that use a link are at most its uses, and a schedule has as many settings at
-- least.
use Rattle.std.proofs.Common.{◌≡◌, ℕ, ◌≤◌, List, [], ◌∷◌, length, All, inl, inr, sym, ◌∙◌, arith}
use Rattle.std.specs.Prelude.{sum_by}
use Rattle.std.specs.List.{AllByRecursion}
use Rattle.std.proofs.lemmas.Bool.Decides.{eqb_tells}
use Rattle.std.proofs.lemmas.List.Elements.{recursion_from_All}
use Rattle.batch.specs.declared.transfer.Transfer.{Transfer}
use Rattle.link_graph.specs.declared.link.Link.{Link}
use Rattle.link_graph.specs.Certificates.{AreDistinct}
use Rattle.link_graph.specs.Counts.{uses, AreUsers}
use Rattle.link_graph.specs.Schedules.{IsScheduleOf}
use Rattle.link_graph.specs.Uses.{Uses}
use Rattle.link_graph.proofs.Koenig.{at_least}
use Rattle.link_graph.proofs.Once.{standings, at_most_once, once_from_distinct}
use Rattle.link_graph.proofs.Sums.{hit, hit_same, hit_other, swap, sum_same, sum_at_most, sum_ones, each}
use Rattle.link_graph.proofs.Users.{some_users, all_users}

-- ---- the transfers that use a link

-- each of them once
pub record UsersOf (batch : List Transfer) (link : Link) : Type 0 where
  pub users : List ℕ
  pub are : AreUsers batch link users
  pub distinct : AreDistinct users
  pub count : length users ≡ uses batch link

pub users_of : (batch : List Transfer) (link : Link) → UsersOf batch link
users_of batch link =
    let some = some_users batch link (length batch) (omega arith) in
    let all = all_users batch link (length batch) some.0 (omega arith) some.1 in
    record { users = some.0; are = all.0; distinct = λ i j d less within same. omega (arith, all.0.ascending i j d less within, same); count = all.1 }

-- a schedule has at least as many settings as a link has uses
pub uses_bound : (batch : List Transfer) (link : Link) (settings : List (List ℕ)) → IsScheduleOf batch settings → uses batch link ≤ length settings
uses_bound batch link settings schedule =
    let u = users_of batch link in
    omega (arith, at_least batch link u.users settings u.are.each u.distinct schedule, u.count)

pub unused : (batch : List Transfer) (link : Link) → batch ≡ [] → uses batch link ≤ 0
unused batch link empty = rw empty (omega arith)

-- ---- distinct transfers that use a link are at most its uses

hit_back : (t u : ℕ) → hit t u ≡ hit u t
hit_back t u = elim (eqb_tells u t) [
  | inl p ↦ hit_same t u p.1 ∙ sym (hit_same u t (sym p.1))
  | inr p ↦ hit_other t u p.1 ∙ sym (hit_other u t (λ e. p.1 (sym e)))
]

at_most_each : (xs ys : List ℕ) → AreDistinct xs → AllByRecursion (λ u. sum_by (λ t. hit t u) xs ≤ 1) ys
at_most_each xs [] distinct = tt
at_most_each xs (y ∷ ys) distinct = (
  omega (arith, sum_same (λ t. hit t y) (λ t. hit y t) xs (λ t. hit_back t y), at_most_once xs y distinct),
  at_most_each xs ys distinct,
)

pub named_few : (batch : List Transfer) (link : Link) (named : List ℕ) → All (λ t. Uses batch t link) named → AreDistinct named → length named ≤ uses batch link
named_few batch link named used distinct =
    let u = users_of batch link in
    let ones = sum_ones (λ t. standings t u.users) named
    (each (λ t. Uses batch t link) (λ t. standings t u.users ≡ 1) (λ t is. once_from_distinct t u.users u.distinct (u.are.every t is)) named
    (recursion_from_All (λ t. Uses batch t link) named used)) in
    let swapped = swap (λ t u. hit t u) named u.users in
    omega (arith, ones, swapped, sum_at_most (λ v. sum_by (λ t. hit t v) named) u.users (at_most_each named u.users distinct), u.count)
