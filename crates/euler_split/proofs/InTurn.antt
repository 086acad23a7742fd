-- Dealing in turn where each pair of links has an even number of members.
use Rattle.std.proofs.Common.{◌≡◌, ℕ, suc, ◌+◌, ◌/◌, ◌<◌, List, ◌++◌, length, replicate, Bool, true, false, refl, sym, ap, ◌∙◌, arith}
use Rattle.std.specs.Int.{bit_at}
use Rattle.std.specs.List.Sorted.{IsPermutation}
use Rattle.std.proofs.lemmas.Bool.{false≢true}
use Rattle.std.proofs.lemmas.List.Sorted.{sum_by-IsPermutation}
use Rattle.std.proofs.lemmas.List.Sums.{sum_by-append}
use Rattle.std.proofs.lemmas.Nat.Bits.{bit_at_lowest, bit_at-suc}
use Rattle.std.proofs.Math.Seq.{take-length}
use Rattle.batch.specs.declared.limits.TheConstants.{MAX_MODULES}
use Rattle.batch.specs.declared.transfer.Transfer.{Transfer}
use Rattle.euler_split.specs.Split.{IsSplit}
use Rattle.link_graph.specs.Masks.{has_pair}
use Rattle.link_graph.proofs.Masks.{bit, no_pair}
use Rattle.euler_split.specs.Trails.{AreHalved}
use Rattle.euler_split.specs.Deals.{AreDealt}
use Rattle.euler_split.specs.Evenness.{uses_pair, pair_count, CanBeHalved, HaveSamePairs}
use Rattle.euler_split.proofs.Masks.{none_at}
use Rattle.euler_split.proofs.Dealt.{is_split}

-- the transfers of a pair in two parts
pairs_together : (g : List Transfer) (whole left right : List ℕ) → IsPermutation whole (left ++ right) → (u v : ℕ) → pair_count g left u v + pair_count g right
    u v ≡ pair_count g whole u v
pairs_together g whole left right parts u v =
    let one : ℕ → ℕ = λ t. bit (uses_pair g u v t) in
    omega (arith, sum_by-append one left right, sum_by-IsPermutation one whole (left ++ right) parts)

false_at_zero : (x : Bool) → bit x ≡ 0 → x ≡ false
false_at_zero true h = absurd (omega (arith, h))
false_at_zero false h = refl

bit_small : (x : Bool) → bit x < 2
bit_small true = omega arith
bit_small false = omega arith

module _ (g : List Transfer) (whole now left right : List ℕ) (even : CanBeHalved g whole 1)
    (dealt : AreDealt g whole (length whole) (replicate MAX_MODULES 0) now left right) where
  parts : IsPermutation whole (left ++ right)
  parts = rw take-length at dealt.parts

  -- no turn is left over
  none_left : (u v : ℕ) → bit (has_pair now u v) ≡ 0
  none_left u v = omega (
    arith,
    dealt.pairs u v,
    ap bit (no_pair MAX_MODULES u v),
    pairs_together g whole left right parts u v,
    even u v 0 (omega arith),
    bit_at_lowest (pair_count g whole u v),
    bit_small (has_pair now u v),
  )

  pub same_pairs : HaveSamePairs g left right
  same_pairs u v = omega (arith, dealt.pairs u v, ap bit (no_pair MAX_MODULES u v), none_left u v)

  none_now : (u v : ℕ) → has_pair now u v ≡ false
  none_now u v = false_at_zero (has_pair now u v) (none_left u v)

  halved : AreHalved (has_pair now) (has_pair (replicate MAX_MODULES 0))
  halved = record {
    within = λ u v is. absurd (false≢true (sym (no_pair MAX_MODULES u v) ∙ is));
    least = λ e m. omega (arith, none_at (has_pair now) e m (λ u v _. none_now u v));
    most = λ e m. omega (arith, none_at (has_pair (replicate MAX_MODULES 0)) e m (λ u v _. no_pair MAX_MODULES u v));
  }

  pub halves_are : IsSplit g whole left right
  halves_are = is_split g whole now (replicate MAX_MODULES 0) now left right (λ u v. grind (arith, dealt.turned u v, no_pair MAX_MODULES u v)) halved dealt

-- what can be halved once more than its halves
pub halves_less : (g : List Transfer) (whole left right : List ℕ) (times : ℕ) → IsPermutation whole (left ++ right) → HaveSamePairs g left right
    → CanBeHalved g whole (times + 1) → CanBeHalved g left times × CanBeHalved g right times
halves_less g whole left right times parts same even =
    let half : (u v : ℕ) → pair_count g left u v ≡ pair_count g whole u v / 2 = λ u v. omega (arith, pairs_together g whole left right parts u v, same u v) in
    let less : (u v i : ℕ) → i < times → bit_at (pair_count g left u v) i ≡ 0 = λ u v i lt. ap (λ (n : ℕ). bit_at n i) (half u v)
    ∙ (sym (bit_at-suc (pair_count g whole u v) i) ∙ even u v (suc i) (omega arith)) in
    (less, λ u v i lt. ap (λ (n : ℕ). bit_at n i) (sym (same u v)) ∙ less u v i lt)
