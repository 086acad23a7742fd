-- Where sessions have as many entries as their history, each entry is one's of them.
use Rattle.std.proofs.Common.{◌≡◌, ℕ, zero, suc, ◌+◌, ◌<◌, ◌≤◌, List, [], ◌∷◌, length, Bool, true, false, cond, nat_eq, refl, sym, ap, ◌∙◌, arith, eqb-true, eq-eqb}
use Rattle.std.specs.List.{AllByRecursion, range_with_len, sum_by}
use Rattle.std.proofs.lemmas.List.Sums.{sum_by-cons}
use Rattle.batch_book.specs.declared.entry.Entry.{Entry}
use Rattle.batch_book.specs.Seats.{own}

-- how often a session is one of these
abbrev hits : ℕ → List ℕ → ℕ
hits s [] = 0
hits s (n ∷ ns) = cond (nat_eq s n) (hits s ns + 1) (hits s ns)

abbrev total : List Entry → List ℕ → ℕ
total es ns = sum_by (λ n. length (own n es)) ns

total_cons : (es : List Entry) (n : ℕ) (ns : List ℕ) → total es (n ∷ ns) ≡ length (own n es) + total es ns
total_cons es n ns = sum_by-cons (λ (k : ℕ). length (own k es)) n ns

total_none : (ns : List ℕ) → total [] ns ≡ 0
total_none [] = refl
total_none (n ∷ ns) = omega (arith, total_cons [] n ns, total_none ns)

more_if : (e : Entry) (xs : List Entry) (h t u : ℕ) (b : Bool) → t ≡ h + u → length (cond b (e ∷ xs) xs) + t ≡ cond b (h + 1) h + (length xs + u)
more_if e xs h t u true is = omega (arith, is)
more_if e xs h t u false is = omega (arith, is)

-- one entry more
one_more : (e : Entry) (es : List Entry) (ns : List ℕ) → total (e ∷ es) ns ≡ hits e.session ns + total es ns
one_more e es [] = refl
one_more e es (n ∷ ns) =
    total_cons (e ∷ es) n ns ∙ more_if e (own n es) (hits e.session ns) (total (e ∷ es) ns) (total es ns) (nat_eq e.session n) (one_more e es ns)
    ∙ ap (λ (k : ℕ). hits e.session (n ∷ ns) + k) (sym (total_cons es n ns))

-- ---- numbers without a gap

missed_if : (s a h : ℕ) (b : Bool) → nat_eq s a ≡ b → s < a → h ≡ 0 → cond b (h + 1) h ≡ 0
missed_if s a h true at less none = let same = eqb-true s a at in let never : ⊥ = omega (arith, same, less) in absurd never
missed_if s a h false at less none = none

-- none of those above it
missed : (s a k : ℕ) → s < a → hits s (range_with_len a k) ≡ 0
missed s a zero less = refl
missed s a (suc k) less = missed_if s a (hits s (range_with_len (a + 1) k)) (nat_eq s a) refl less (missed s (a + 1) k (omega (arith, less)))

-- it is one of them once at most, and then below their end
abbrev IsOnce : ℕ → ℕ → ℕ → Type 0
IsOnce s end h = (h ≤ 1) × (h ≡ 1 → s < end)

once_if : (s a end h : ℕ) (b : Bool) → nat_eq s a ≡ b → (s < a + 1 → h ≡ 0) → a < end → IsOnce s end h → IsOnce s end (cond b (h + 1) h)
once_if s a end h true at none less rest =
    let same = eqb-true s a at in
    let zero_left = none (omega (arith, same)) in
    (omega (arith, zero_left), (λ _. omega (arith, same, less)))
once_if s a end h false at none less rest = rest

widened : (s m n h : ℕ) → IsOnce s m h → m ≤ n → IsOnce s n h
widened s m n h rest le = (rest.0, (λ one. let less = rest.1 one in omega (arith, less, le)))

once : (s a k : ℕ) → IsOnce s (a + k) (hits s (range_with_len a k))
once s a zero = (omega arith, (λ one. omega (arith, one)))
once s a (suc k) =
    let h = hits s (range_with_len (a + 1) k) in
    once_if s a (a + suc k) h (nat_eq s a) refl (λ less. missed s (a + 1) k less) (omega arith)
    (widened s (a + 1 + k) (a + suc k) h (once s (a + 1) k) (omega arith))

-- ---- histories

bound : (es : List Entry) (n : ℕ) → total es (range_with_len 0 n) ≤ length es
bound [] n = omega (arith, total_none (range_with_len 0 n))
bound (e ∷ es) n =
    let one = once e.session 0 n in
    omega (arith, one_more e es (range_with_len 0 n), bound es n, one.0)

pub no_others : (es : List Entry) (n : ℕ) → total es (range_with_len 0 n) ≡ length es → AllByRecursion (λ e. e.session < n) es
no_others [] n same = tt
no_others (e ∷ es) n same =
    let one = once e.session 0 n in
    let more = one_more e es (range_with_len 0 n) in
    let rest = bound es n in
    let here : hits e.session (range_with_len 0 n) ≡ 1 = omega (arith, more, rest, one.0, same) in
    let less = one.1 here in
    (omega (arith, less), no_others es n (omega (arith, more, same, here)))

-- nobody else has an entry
none_own_if : (s n : ℕ) (e : Entry) (xs : List Entry) (b : Bool) → nat_eq e.session s ≡ b → e.session < n → n ≤ s → xs ≡ [] → cond b (e ∷ xs) xs ≡ []
none_own_if s n e xs true at less out none = let same = eqb-true e.session s at in let never : ⊥ = omega (arith, same, less, out) in absurd never
none_own_if s n e xs false at less out none = none

pub none_own : (s n : ℕ) (es : List Entry) → AllByRecursion (λ e. e.session < n) es → n ≤ s → own s es ≡ []
none_own s n [] each out = refl
none_own s n (e ∷ es) each out = none_own_if s n e (own s es) (nat_eq e.session s) refl each.0 out (none_own s n es each.1 out)

-- what is so of the entries of each session is so of all
own_head_if : (P : Entry → Type 0) (e : Entry) (xs : List Entry) (b : Bool) → b ≡ true → AllByRecursion P (cond b (e ∷ xs) xs) → P e
own_head_if P e xs true at all = all.0
own_head_if P e xs false at all = absurd cc

own_tail_if : (P : Entry → Type 0) (e : Entry) (xs : List Entry) (b : Bool) → AllByRecursion P (cond b (e ∷ xs) xs) → AllByRecursion P xs
own_tail_if P e xs true all = all.1
own_tail_if P e xs false all = all

pub all_own : (P : Entry → Type 0) (n : ℕ) (es : List Entry) → AllByRecursion (λ e. e.session < n) es → ((s : ℕ) → s < n → AllByRecursion P (own s es))
    → AllByRecursion P es
all_own P n [] each all = tt
all_own P n (e ∷ es) each all = (
  own_head_if P e (own e.session es) (nat_eq e.session e.session) (eq-eqb e.session e.session refl) (all e.session each.0),
  all_own P n es each.1 (λ s less. own_tail_if P e (own s es) (nat_eq e.session s) (all s less)),
)
