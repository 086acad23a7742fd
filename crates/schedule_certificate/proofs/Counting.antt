-- Counts over the numbers of a part, and how many of the placed transfers use a link.
use Rattle.std.proofs.Common.{◌≡◌, ◌==◌, ℕ, zero, suc, ◌+◌, ◌<◌, ◌≤◌, inl, inr, List, [], ◌∷◌, length, All, count_by, Option, None, is_some, Bool, true, false, not, ◌&&◌, cond, refl, sym, ap, ◌∙◌}
use Rattle.std.proofs.Common.{arith}
use Rattle.std.specs.Prelude.{Contains}
use Rattle.std.proofs.lemmas.Bool.{false≢true}
use Rattle.std.proofs.lemmas.Bool.Decides.{eqb_tells}
use Rattle.std.proofs.lemmas.List.Elements.{All-head, All-tail}
use Rattle.std.proofs.lemmas.List.Sums.{sum_by-cons, count_by-le-length}
use Rattle.std.proofs.lemmas.Option.{get_or_from_slice_get}
use Rattle.batch.specs.declared.transfer.Transfer.{Transfer}
use Rattle.batch.proofs.Lists.{at_cons}
use Rattle.link_graph.specs.declared.link.Link.{Link}
use Rattle.link_graph.specs.Uses.{Uses}
use Rattle.link_graph.specs.Counts.{count_below, module_at, uses}
use Rattle.link_graph.specs.Marks.{members}
use Rattle.link_graph.proofs.Sums.{count_below_same}
use Rattle.euler_split.specs.Split.{uses_among}
use Rattle.euler_split.proofs.Modules.{known_transfer}
use Rattle.batch.specs.Overlap.{no_transfer, transfer_at}
use Rattle.alternating_path.specs.Colouring.{colour_at, HasColour}
use Rattle.alternating_path.specs.Counts.{uses_link, placed_uses}
use Rattle.alternating_path.specs.Classes.{placed_count}
use Rattle.alternating_path.proofs.Held.{and_true, and_false, count_below_none, uses_yes}

count_cons : (p : ℕ → Bool) (x : ℕ) (xs : List ℕ) → count_by p (x ∷ xs) ≡ cond (p x) 1 0 + count_by p xs
count_cons p x xs = sum_by-cons (λ y. cond (p y) 1 0) x xs

-- ---- counts over a list, and counts of numbers that all stand in it

-- a test that passes less
abbrev Fewer : (ℕ → Bool) → (ℕ → Bool) → Type 0
Fewer q p = (u : ℕ) → q u ≡ true → p u ≡ true

bit_le : (a b : Bool) → (a ≡ true → b ≡ true) → cond a 1 0 ≤ cond b 1 0
bit_le true true h = omega arith
bit_le true false h = absurd (false≢true (h refl))
bit_le false b h = omega arith

count_by_le : (q p : ℕ → Bool) (xs : List ℕ) → Fewer q p → count_by q xs ≤ count_by p xs
count_by_le q p [] less = omega arith
count_by_le q p (x ∷ xs) less = omega (arith, count_cons q x xs, count_cons p x xs, bit_le (q x) (p x) (less x), count_by_le q p xs less)

-- strictly less, where a number that stands in the list passes only the one
count_by_lt : (q p : ℕ → Bool) (t : ℕ) (xs : List ℕ) → Fewer q p → q t ≡ false → p t ≡ true → Contains xs t → count_by q xs < count_by p xs
count_by_lt q p t [] less off on stands = absurd (omega (arith, stands.1))
count_by_lt q p t (x ∷ xs) less off on stands = elim (at_cons x t xs stands) [
  | inl same ↦
      let bit : Bool → ℕ = λ b. cond b 1 0 in
      let off_x : bit (q x) ≡ 0 = ap bit (ap q same ∙ off) in
      let on_x : bit (p x) ≡ 1 = ap bit (ap p same ∙ on) in
      omega (arith, count_cons q x xs, count_cons p x xs, off_x, on_x, count_by_le q p xs less)
  | inr rest ↦ omega (arith, count_cons q x xs, count_cons p x xs, bit_le (q x) (p x) (less x), count_by_lt q p t xs less off on rest)
]

-- at most one number below n is x
remove_one : (n x : ℕ) (q : ℕ → Bool) → count_below n q ≤ count_below n (λ u. q u && not (u == x)) + cond (q x) 1 0
remove_one zero x q = omega arith
remove_one (suc n) x q = elim (eqb_tells n x) [
  | inl same ↦
      let rest : count_below n q ≡ count_below n (λ u. q u && not (u == x)) = count_below_same n q (λ u. q u && not (u == x)) (λ u below. elim (eqb_tells u x) [
        | inl here ↦ absurd (omega (arith, here.1, same.1))
        | inr away ↦ rw away.0 (elim (q u) as (λ b. b ≡ (b && true)) [ true ↦ refl | false ↦ refl ])
      ]) in
      let qx : q n ≡ q x = ap q same.1 in
      rw (same.0, qx) (elim (q x) as (λ b. cond b 1 0 + count_below n q ≤ cond (b && false) 1 0 + count_below n (λ u. q u && not (u == x)) + cond b 1 0)
      [ true ↦ omega arith | false ↦ omega arith ])
  | inr other ↦
      let rest = remove_one n x q in
      rw other.0 (elim (q n) as (λ b. cond b 1 0 + count_below n q ≤ cond (b && true) 1 0 + count_below n (λ u. q u && not (u == x)) + cond (q x) 1 0)
      [ true ↦ omega arith | false ↦ omega arith ])
]

-- numbers that all stand in a list are at most as many as those of the list that pass
count_standing : (xs : List ℕ) (q : ℕ → Bool) (n : ℕ) → ((u : ℕ) → q u ≡ true → Contains xs u) → count_below n q ≤ count_by q xs
count_standing [] q n stands =
    let none : count_below n q ≡ 0 = count_below_none n q (λ u _. let go : (b : Bool) → q u ≡ b → q u ≡ false = λ b. elim b as (λ b. q u ≡ b → q u ≡ false)
    [ true ↦ λ e. absurd (omega (arith, (stands u e).1)) | false ↦ λ e. e ] in go (q u) refl) in
    omega arith
count_standing (x ∷ xs) q n stands =
    let less : ℕ → Bool = λ u. q u && not (u == x) in
    let rest = count_standing xs less n (λ u h.
    let both = and_true (q u) (not (u == x)) h in
    elim (at_cons x u xs (stands u both.0)) [
      | inl same ↦ elim (eqb_tells u x) [ inl back ↦ absurd (false≢true (ap not (sym back.0) ∙ both.1)) | inr away ↦ absurd (away.1 (sym same)) ]
      | inr later ↦ later
    ]) in
    let fewer = count_by_le less q xs (λ u h. (and_true (q u) (not (u == x)) h).0) in
    omega (arith, count_cons q x xs, remove_one n x q, rest, fewer)

-- ---- the uses of a link among a part

pub uses_counted : (batch : List Transfer) (link : Link) (part : List ℕ) → All (λ t. t < length batch) part → uses_among batch part link
    ≡ count_by (uses_link batch link) part
unfolding uses_link
uses_counted batch link [] known = refl
uses_counted batch link (t ∷ ts) known =
    let here = known_transfer batch t (All-head (λ u. u < length batch) t ts known) in
    let x : Transfer = here.0 in
    let more : members batch (t ∷ ts) ≡ x ∷ members batch ts = rw here.1 refl in
    let one : Transfer → ℕ = λ y. cond (module_at link.end y == link.«module») 1 0 in
    let same : one (transfer_at batch t) ≡ one x = ap one (get_or_from_slice_get batch t x no_transfer here.1) in
    omega (
      arith,
      ap (λ (xs : List Transfer). uses xs link) more,
      sum_by-cons one x (members batch ts),
      sum_by-cons (λ u. one (transfer_at batch u)) t ts,
      same,
      uses_counted batch link ts (All-tail (λ u. u < length batch) t ts known),
    )

-- a link of a transfer of the part that isn't placed has fewer placed transfers than uses
pub part_room : (batch : List Transfer) (part : List ℕ) (colour : List (Option ℕ)) (t : ℕ) (link : Link) → All (λ u. u < length batch) part
    → ((u : ℕ) → HasColour colour u → Contains part u) → Contains part t → colour_at colour t ≡ None → Uses batch t link
    → placed_uses batch colour link < uses_among batch part link
unfolding placed_uses
part_room batch part colour t link known only stands out used =
    let q : ℕ → Bool = λ u. uses_link batch link u && is_some (colour_at colour u) in
    let few = count_standing part q (length batch) (λ u h. only u (and_true (uses_link batch link u) (is_some (colour_at colour u)) h).1) in
    let off : q t ≡ false = ap (λ (o : Option ℕ). uses_link batch link t && is_some o) out ∙ and_false (uses_link batch link t) in
    let less = count_by_lt q (uses_link batch link) t part (λ u h. (and_true (uses_link batch link u) (is_some (colour_at colour u)) h).0) off
    (uses_yes batch t link used) stands in
    omega (arith, few, less, uses_counted batch link part known)

-- no more transfers are placed than the part has
pub placed_few : (part : List ℕ) (colour : List (Option ℕ)) → ((u : ℕ) → HasColour colour u → Contains part u) → placed_count colour ≤ length part
placed_few part colour only =
    let q : ℕ → Bool = λ u. is_some (colour_at colour u) in
    omega (arith, count_standing part q (length colour) (λ u h. only u h), count_by-le-length q part)
