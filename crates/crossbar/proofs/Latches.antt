-- What a row of latches has at an output.
use Rattle.std.proofs.Common.{◌≡◌, ◌<◌, ◌+◌, ◌≢◌, ℕ, suc, zero, true, false, cond, eqb, List, [], ◌∷◌, length, get_or, refl, sym, ap, ◌∙◌, arith, Option, Some, None, set, get_or-set_same}
use Rattle.std.proofs.Common.{get_or-set_other}
use Rattle.std.specs.Ordering.{nat_cmp}
use Rattle.std.specs.Cmp.{nat_cmp_total, unsigned_tied}
use Rattle.std.specs.FinMap.{find, get, insert, remove, get-insert, get-remove, get-from_entries, same_map, nat_cmp-IsAntisymmetric}
use Rattle.crossbar.specs.Switch.{Sources}
use Rattle.crossbar.specs.Latches.{connections, sources_of}

pub eqb_no : (a b : ℕ) → a ≢ b → eqb a b ≡ false
eqb_no a b n = grind arith

pub eqb_yes : (a b : ℕ) → a ≡ b → eqb a b ≡ true
eqb_yes a b e = grind arith

pub get-put : (m : Sources) (k v q : ℕ) → get (insert m k v) q ≡ cond (eqb q k) (Some v) (get m q)
get-put m k v q = get-insert nat_cmp_total m k v q ∙ ap (λ b. cond b (Some v) (get m q)) (unsigned_tied q k)

pub get-cut : (m : Sources) (k q : ℕ) → get (remove m k) q ≡ cond (eqb q k) None (get m q)
get-cut m k q = get-remove nat_cmp_total m k q ∙ ap (λ b. cond b None (get m q)) (unsigned_tied q k)

pub find_not : (q k v : ℕ) (es : List (ℕ × ℕ)) → q ≢ k → find nat_cmp q ((k, v) ∷ es) ≡ find nat_cmp q es
find_not q k v es n = ap (λ b. cond b (Some v) (find nat_cmp q es)) (unsigned_tied q k ∙ eqb_no q k n)

pub find_here : (q k v : ℕ) (es : List (ℕ × ℕ)) → q ≡ k → find nat_cmp q ((k, v) ∷ es) ≡ Some v
find_here q k v es e = ap (λ b. cond b (Some v) (find nat_cmp q es)) (unsigned_tied q k ∙ eqb_yes q k e)

below : (latches : List (Option ℕ)) (k q : ℕ) → q < k → find nat_cmp q (connections k latches) ≡ None
below [] k q h = refl
below (None ∷ latches) k q h = below latches (k + 1) q (omega arith)
below (Some v ∷ latches) k q h = find_not q k v _ (omega arith) ∙ below latches (k + 1) q (omega arith)

from : (latches : List (Option ℕ)) (k q j : ℕ) → q ≡ k + j → find nat_cmp q (connections k latches) ≡ get_or latches j None
from [] k q j h = refl
from (None ∷ latches) k q zero h = below latches (k + 1) q (omega arith)
from (Some v ∷ latches) k q zero h = find_here q k v _ (omega arith)
from (None ∷ latches) k q (suc j) h = from latches (k + 1) q j (omega arith)
from (Some v ∷ latches) k q (suc j) h = find_not q k v _ (omega arith) ∙ from latches (k + 1) q j (omega arith)

get_sources : (latches : List (Option ℕ)) (q : ℕ) → get (sources_of latches) q ≡ get_or latches q None
get_sources latches q = get-from_entries nat_cmp_total (connections 0 latches) q ∙ from latches 0 q q (omega arith)

pub same_sources : (m n : Sources) → ((q : ℕ) → get m q ≡ get n q) → m ≡ n
same_sources m n h = same_map nat_cmp_total nat_cmp-IsAntisymmetric m n h

set_at : (latches : List (Option ℕ)) (k : ℕ) (v : Option ℕ) (q : ℕ) → k < length latches → get_or (set latches k v) q None
    ≡ cond (eqb q k) v (get_or latches q None)
set_at latches k v q h = elim (eqb q k) as (λ b. eqb q k ≡ b → get_or (set latches k v) q None ≡ cond b v (get_or latches q None)) [
  | true ↦ λ e. let same : q ≡ k = grind arith in ap (λ i. get_or (set latches k v) i None) same ∙ (let h2 : k < length latches = h in rw get_or-set_same)
  | false ↦ λ e. let other : q ≢ k = grind arith in rw get_or-set_other
] refl

pub sources_connect : (latches : List (Option ℕ)) (output input : ℕ) → output < length latches → sources_of (set latches output (Some input))
    ≡ insert (sources_of latches) output input
sources_connect latches output input h = same_sources _ _ (λ q.
    get_sources _ q ∙ set_at latches output (Some input) q h ∙ ap (λ v. cond (eqb q output) (Some input) v) (sym (get_sources latches q))
    ∙ sym (get-put (sources_of latches) output input q))

pub sources_disconnect : (latches : List (Option ℕ)) (output : ℕ) → output < length latches → sources_of (set latches output None)
    ≡ remove (sources_of latches) output
sources_disconnect latches output h = same_sources _ _ (λ q.
    get_sources _ q ∙ set_at latches output None q h ∙ ap (λ v. cond (eqb q output) None v) (sym (get_sources latches q))
    ∙ sym (get-cut (sources_of latches) output q))

same_at : (latches : List (Option ℕ)) (i : ℕ) (d e : Option ℕ) → i < length latches → get_or latches i d ≡ get_or latches i e
same_at [] i d e h = absurd (omega arith)
same_at (x ∷ xs) zero d e h = refl
same_at (x ∷ xs) (suc i) d e h = same_at xs i d e (omega arith)

pub source_at : (latches : List (Option ℕ)) (i q : ℕ) (d : Option ℕ) → i < length latches → i ≡ q → get_or latches i d ≡ get (sources_of latches) q
source_at latches i q d h e = same_at latches i d None h ∙ ap (λ k. get_or latches k None) e ∙ sym (get_sources latches q)
