-- The placed transfers that use a link are counted.
use Rattle.std.proofs.Common.{◌≡◌, ℕ, zero, suc, ◌+◌, List, [], ◌∷◌, ◌++◌, length, drop, Option, is_some, Bool, true, false, ◌&&◌, ◌==◌, cond, if◌then◌else◌, refl, ap, arith}
use Rattle.std.proofs.lemmas.List.Sums.{sum_by-cons}
use Rattle.batch.specs.declared.transfer.Transfer.{Transfer}
use Rattle.link_graph.specs.declared.link.Link.{Link}
use Rattle.link_graph.specs.Counts.{count_below, module_at, uses}
use Rattle.link_graph.proofs.Sums.{count_below_same}
use Rattle.alternating_path.specs.Colouring.{colour_at}
use Rattle.alternating_path.specs.Counts.{placed_uses, uses_link}
use Rattle.row_tests.specs.Counts.{placed_transfers}

count_first : (n : ℕ) (test : ℕ → Bool) → count_below (suc n) test ≡ cond (test 0) 1 0 + count_below n (λ t. test (suc t))
count_first zero test = refl
count_first (suc n) test = let rest = count_first n test in omega arith

later : (colour : List (Option ℕ)) (t : ℕ) → colour_at colour (suc t) ≡ colour_at (drop 1 colour) t
later [] t = refl
later (c ∷ colour) t = refl

with_true : (b : Bool) → cond {A = ℕ} (b && true) 1 0 ≡ cond {A = ℕ} b 1 0
with_true true = refl
with_true false = refl

with_false : (b : Bool) → cond {A = ℕ} (b && false) 1 0 ≡ 0
with_false true = refl
with_false false = refl

first : (x : Transfer) (rest : List Transfer) (link : Link) (b : Bool) → uses ((if b then x ∷ [] else []) ++ rest) link
    ≡ cond ((module_at link.end x == link.«module») && b) 1 0 + uses rest link
first x rest link true = omega (
  arith,
  sum_by-cons (λ (y : Transfer). cond (module_at link.end y == link.«module») 1 0) x rest,
  with_true (module_at link.end x == link.«module»),
)
first x rest link false = omega (arith, with_false (module_at link.end x == link.«module»))

pub counted : (batch : List Transfer) (colour : List (Option ℕ)) (link : Link) → placed_uses batch colour link ≡ uses (placed_transfers batch colour) link
unfolding placed_uses uses_link
counted [] colour link = refl
counted (x ∷ batch) colour link =
    let test : ℕ → Bool = λ t. uses_link (x ∷ batch) link t && is_some (colour_at colour t) in
    let all = count_first (length batch) test in
    let behind = count_below_same (length batch) (λ t. test (suc t)) (λ t. uses_link batch link t && is_some (colour_at (drop 1 colour) t))
    (λ t _. ap (λ c. uses_link batch link t && is_some c) (later colour t)) in
    let rest = counted batch (drop 1 colour) link in
    let its = first x (placed_transfers batch (drop 1 colour)) link (is_some (colour_at colour 0)) in
    omega (arith, all, behind, rest, its)
