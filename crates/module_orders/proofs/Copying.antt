-- The blocks whose copies orders send, by flags.
use Rattle.std.proofs.Common.{ℕ, zero, suc, Bool, false, ◌≡◌, ◌<◌, ◌+◌, List, [], ◌∷◌, length, map, take, replicate, get_or, refl, sym, ap, ◌∙◌, arith, cond}
use Rattle.std.specs.Prelude.{filter, count_by}
use Rattle.std.specs.List.{range_with_len}
use Rattle.std.proofs.lemmas.List.{ext_get_or}
use Rattle.std.proofs.lemmas.List.FromFn.{get_or-map-range_with_len, length-map-range_with_len}
use Rattle.std.proofs.lemmas.List.Sums.{length-filter, sum_by-cons}
use Rattle.batch.specs.declared.limits.TheConstants.{MAX_BLOCKS}
use Rattle.module_memory.proofs.Repeats.{none_up}
use Rattle.module_orders.specs.Flags.{copy_flags, numbers_up, up_in}
use Rattle.module_orders.specs.Orders.{copies_in, is_copied}
use Rattle.module_orders.specs.declared.order.Order.{Order}

-- the flags of just the blocks below a limit whose copies are sent are up
abbrev pub AreCopied : List Order → List Bool → Type 0
AreCopied orders flags = (b : ℕ) → b < MAX_BLOCKS → get_or flags b false ≡ is_copied orders b

pub copied_all : (orders : List Order) (flags : List Bool) → length flags ≡ MAX_BLOCKS → AreCopied orders flags → flags ≡ copy_flags orders
unfolding copy_flags
copied_all orders flags size h =
    ext_get_or false flags (copy_flags orders) (size ∙ sym (length-map-range_with_len (is_copied orders) 0 MAX_BLOCKS)) (λ i l.
    let below : i < MAX_BLOCKS = omega arith in
    h i below ∙ sym (get_or-map-range_with_len (is_copied orders) 0 MAX_BLOCKS i i false below (omega arith)))

-- ---- the numbers of flags that are up

-- two tests that agree on the numbers below a limit pass the same
pub same_filter : (p q : ℕ → Bool) (a n : ℕ) → ((b : ℕ) → b < a + n → p b ≡ q b) → filter p (range_with_len a n) ≡ filter q (range_with_len a n)
same_filter p q a zero e = refl
same_filter p q a (suc n) e =
    ap (λ (x : Bool). cond x (a ∷ filter p (range_with_len (a + 1) n)) (filter p (range_with_len (a + 1) n))) (e a (omega arith))
    ∙ ap (λ (xs : List ℕ). cond (q a) (a ∷ xs) xs) (same_filter p q (a + 1) n (λ b l. e b (omega arith)))

pub numbers_up-copy_flags : (orders : List Order) → numbers_up (copy_flags orders) ≡ copies_in orders
unfolding copy_flags numbers_up copies_in
numbers_up-copy_flags orders =
    same_filter (λ b. get_or (copy_flags orders) b false) (is_copied orders) 0 MAX_BLOCKS
    (λ b l. get_or-map-range_with_len (is_copied orders) 0 MAX_BLOCKS b b false (omega arith) (omega arith))

count_by-map : (p : ℕ → Bool) (xs : List ℕ) → count_by (λ up. up) (map p xs) ≡ count_by p xs
count_by-map p [] = refl
count_by-map p (x ∷ xs) = omega (
  arith,
  sum_by-cons (λ (up : Bool). cond up 1 0) (p x) (map p xs),
  sum_by-cons (λ (n : ℕ). cond (p n) 1 0) x xs,
  count_by-map p xs,
)

pub count-copy_flags : (orders : List Order) → count_by (λ up. up) (copy_flags orders) ≡ length (copies_in orders)
unfolding copy_flags copies_in
count-copy_flags orders = count_by-map (is_copied orders) (range_with_len 0 MAX_BLOCKS) ∙ sym (length-filter (is_copied orders) (range_with_len 0 MAX_BLOCKS))

pub none_copied : (n : ℕ) (orders : List Order) → AreCopied (take 0 orders) (replicate n false)
none_copied n orders b below = none_up n b

pub numbers_up-all : (flags : List Bool) (n : ℕ) → n ≡ MAX_BLOCKS → filter (up_in flags) (range_with_len 0 n) ≡ numbers_up flags
unfolding numbers_up
numbers_up-all flags n e = ap (λ (k : ℕ). filter (up_in flags) (range_with_len 0 k)) e
