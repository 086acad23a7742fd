-- The bytes of one word more.
use Rattle.std.proofs.Common.{◌≡◌, ◌+◌, ◌<◌, ℕ, zero, length, take, suc, List, ◌++◌, sym, ap, ◌∙◌, arith, add-one, append_assoc, append-nil}
use Rattle.std.specs.List.{flat_map, range_with_len}
use Rattle.peek_poke.specs.Sending.{IsCut}
use Rattle.setting_runner.specs.Carried.{first_sent}

from_on : (bytes : ℕ → List ℕ) (a n : ℕ) → flat_map bytes (range_with_len a (suc n)) ≡ flat_map bytes (range_with_len a n) ++ bytes (a + n)
from_on bytes a zero =
    let e : a ≡ a + zero = omega arith in
    append-nil (bytes a) ∙ ap bytes e
from_on bytes a (suc n) =
    let e : a + 1 + n ≡ a + suc n = omega arith in
    ap (λ (x : List ℕ). bytes a ++ x) (from_on bytes (a + 1) n ∙ ap (λ (i : ℕ). flat_map bytes (range_with_len (a + 1) n) ++ bytes i) e)
    ∙ sym (append_assoc (bytes a) (flat_map bytes (range_with_len (a + 1) n)) (bytes (a + suc n)))

-- a wire that had carried the words so far, and then one more
pub one_more : (bytes : ℕ → List ℕ) (j : ℕ) (first old new next : List ℕ) → old ≡ first ++ first_sent bytes j → new ≡ old ++ next → next ≡ bytes j → new ≡ first
    ++ first_sent bytes (j + 1)
one_more bytes j first old new next was is same =
    let z : j ≡ 0 + j = omega arith in
    is ∙ ap (λ (x : List ℕ). x ++ next) was ∙ append_assoc first (first_sent bytes j) next ∙ ap (λ (x : List ℕ). first ++ (first_sent bytes j ++ x))
    (same ∙ ap bytes z)
    ∙ ap (λ (x : List ℕ). first ++ x) (sym (from_on bytes 0 j) ∙ ap (λ (n : ℕ). first_sent bytes n) (sym (add-one j)))

-- a wire that had carried the words so far, and then less than the next one
pub cut_off : (bytes : ℕ → List ℕ) (j count : ℕ) (first old new next : List ℕ) → old ≡ first ++ first_sent bytes j → next ≡ bytes j → count < length next → new
    ≡ old ++ take count next → IsCut (bytes j) (first ++ first_sent bytes j) new
cut_off bytes j count first old new next was same proper is = (
  count,
  omega (arith, ap (length {A = ℕ}) same),
  is ∙ ap (λ (x : List ℕ). x ++ take count next) was
      ∙ ap (λ (x : List ℕ). (first ++ first_sent bytes j) ++ take count x) same,
)
