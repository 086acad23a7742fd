-- A link has as many placed transfers as colours that are taken there.
use Rattle.std.proofs.Common.{◌≡◌, ◌≢◌, ℕ, zero, suc, ◌+◌, ◌*◌, ◌<◌, ◌≤◌, inl, inr, List, length, Option, Some, None, Bool, true, false, is_some, IsSome, ◌&&◌, ltb, cond, refl, sym, ap, ◌∙◌, subst}
use Rattle.std.proofs.Common.{arith, eq-eqb}
use Rattle.std.proofs.lemmas.Bool.{cases_eq, cases_Bool, eqb-true, false≢true}
use Rattle.std.specs.Prelude.{count_by}
use Rattle.std.proofs.Common.{add-one, take}
use Rattle.std.proofs.lemmas.List.{take_all}
use Rattle.std.proofs.lemmas.List.Sums.{count_by_more_yes, count_by_more_no}
use Rattle.std.proofs.lemmas.Bool.Decides.{nat_tests}
use Rattle.std.proofs.lemmas.Option.{same_Some, none-some}
use Rattle.std.specs.Prelude.{◌==◌}
use Rattle.batch.specs.declared.transfer.Transfer.{Transfer}
use Rattle.link_graph.specs.declared.limits.TheConstants.{LINKS}
use Rattle.link_graph.specs.declared.link.End.{End}
use Rattle.link_graph.specs.declared.link.End.TheVariants.{Zero, Three}
use Rattle.link_graph.specs.declared.link.Link.{Link}
use Rattle.link_graph.specs.Uses.{Uses}
use Rattle.batch.specs.Overlap.{transfer_at, no_transfer}
use Rattle.alternating_path.specs.Ends.{link_at, end_link}
use Rattle.alternating_path.specs.Colouring.{colour_at}
use Rattle.link_graph.specs.Counts.{count_below, module_at, uses}
use Rattle.link_graph.proofs.Sums.{count_below_same}
use Rattle.alternating_path.specs.Counts.{uses_link, placed_uses}
use Rattle.alternating_path.specs.Cells.{place_at, holder_at, AreCellsOf}
use Rattle.alternating_path.proofs.Links.{place_low, same_end, same_link, place-link, uses_at, uses_within}
use Rattle.alternating_path.proofs.Writes.{some_within}

-- ---- counts of numbers that pass a test

pub count_below_none : (n : ℕ) (p : ℕ → Bool) → ((i : ℕ) → i < n → p i ≡ false) → count_below n p ≡ 0
count_below_none zero p none = refl
count_below_none (suc n) p none = rw (none n (omega arith)) (omega (arith, count_below_none n p (λ i h. none i (omega arith))))

pub count_below_all : (n : ℕ) (p : ℕ → Bool) → ((i : ℕ) → i < n → p i ≡ true) → count_below n p ≡ n
count_below_all zero p all = refl
count_below_all (suc n) p all = rw (all n (omega arith)) (omega (arith, count_below_all n p (λ i h. all i (omega arith))))

-- the tests agree but at m, where only q passes
pub count_below_more : (n m : ℕ) (p q : ℕ → Bool) → m < n → p m ≡ false → q m ≡ true → ((i : ℕ) → i < n → i ≢ m → p i ≡ q i) → count_below n q
    ≡ count_below n p + 1
count_below_more zero m p q h off on same = absurd (omega arith)
count_below_more (suc n) m p q h off on same = elim (cases_eq n m) [
  | inl here ↦
      let rest = count_below_same n p q (λ i below. same i (omega arith) (λ e. omega arith)) in
      let off_n : p n ≡ false = ap p here ∙ off in
      let on_n : q n ≡ true = ap q here ∙ on in
      rw (off_n, on_n) (omega (arith, rest))
  | inr away ↦
      let rest = count_below_more n m p q (omega arith) off on (λ i below ne. same i (omega arith) ne) in
      let now : p n ≡ q n = same n (omega arith) away in
      rw now (omega (arith, rest))
]

pub count_below_le : (n : ℕ) (p : ℕ → Bool) → count_below n p ≤ n
count_below_le zero p = omega arith
count_below_le (suc n) p = elim (p n) as (λ b. cond b 1 0 + count_below n p ≤ suc n) [
  | true ↦ omega (arith, count_below_le n p)
  | false ↦
      omega (arith, count_below_le n p)
]

pub count_below_lt : (n m : ℕ) (p : ℕ → Bool) → m < n → p m ≡ false → count_below n p < n
count_below_lt zero m p h off = absurd (omega arith)
count_below_lt (suc n) m p h off = elim (cases_eq n m) [
  | inl here ↦ let off_n : p n ≡ false = ap p here ∙ off in rw off_n (omega (arith, count_below_le n p))
  | inr away ↦ let rest = count_below_lt n m p (omega arith) off in elim (p n) as (λ b. cond b 1 0 + count_below n p < suc n)
      [ true ↦ omega (arith, rest) | false ↦ omega (arith, rest) ]
]

-- as many pass p as q at most, where p implies q, and fewer where one number passes q alone
count_below_weaker : (n : ℕ) (p q : ℕ → Bool) → ((i : ℕ) → p i ≡ true → q i ≡ true) → count_below n p ≤ count_below n q
count_below_weaker zero p q weaker = omega arith
count_below_weaker (suc n) p q weaker =
    let rest = count_below_weaker n p q weaker in
    let go : (a b : Bool) → (a ≡ true → b ≡ true) → cond a 1 0 + count_below n p ≤ cond b 1 0 + count_below n q =
    λ a b. elim a as (λ a. (a ≡ true → b ≡ true) → cond a 1 0 + count_below n p ≤ cond b 1 0 + count_below n q) [
      | true ↦ λ h. rw (h refl) (omega (arith, rest))
      | false ↦ λ h. elim b as (λ b. 0 + count_below n p ≤ cond b 1 0 + count_below n q) [ true ↦ omega (arith, rest) | false ↦ omega (arith, rest) ]
    ] in
    go (p n) (q n) (weaker n)

fewer : (n m : ℕ) (p q : ℕ → Bool) → m < n → ((i : ℕ) → p i ≡ true → q i ≡ true) → q m ≡ true → p m ≡ false → count_below n p < count_below n q
fewer zero m p q m_in weaker on off = absurd (omega arith)
fewer (suc n) m p q m_in weaker on off = elim (cases_eq n m) [
  | inl here ↦
      let off_n : p n ≡ false = ap p here ∙ off in
      let on_n : q n ≡ true = ap q here ∙ on in
      rw (off_n, on_n) (omega (arith, count_below_weaker n p q weaker))
  | inr away ↦
      let rest = fewer n m p q (omega arith) weaker on off in
      let go : (a b : Bool) → (a ≡ true → b ≡ true) → cond a 1 0 + count_below n p < cond b 1 0 + count_below n q =
      λ a b. elim a as (λ a. (a ≡ true → b ≡ true) → cond a 1 0 + count_below n p < cond b 1 0 + count_below n q) [
        | true ↦ λ h. rw (h refl) (omega (arith, rest))
        | false ↦ λ h. elim b as (λ b. 0 + count_below n p < cond b 1 0 + count_below n q) [ true ↦ omega (arith, rest) | false ↦ omega (arith, rest) ]
      ] in
      go (p n) (q n) (weaker n)
]

pub and_true : (a b : Bool) → (a && b) ≡ true → (a ≡ true) × (b ≡ true)
and_true true b h = (refl, h)
and_true false b h = absurd (false≢true h)

pub and_false : (a : Bool) → (a && false) ≡ false
and_false true = refl
and_false false = refl

-- ---- two partial maps that are each other's inverse

-- a number below m
abbrev among : ℕ → Option ℕ → Bool
among m None = false
among m (Some t) = ltb t m

-- p and q are each other's inverse, from the numbers below n to those below k: as many have one as
-- the other
module _ (n k : ℕ) (p q : ℕ → Option ℕ) (there : (t c : ℕ) → t < n → p t ≡ Some c → (c < k) × (q c ≡ Some t)) (back : (c t : ℕ) → c < k → q c ≡ Some t → (t < n)
    × (p t ≡ Some c)) where
  among-same : (m : ℕ) (o : Option ℕ) → o ≢ Some m → among m o ≡ among (suc m) o
  among-same m None ne = refl
  among-same m (Some t) ne = let away : t ≢ m = λ e. ne (ap Some e) in grind (arith, nat_tests)

  matched_upto : (m : ℕ) → m ≤ n → count_below m (λ t. is_some (p t)) ≡ count_below k (λ c. among m (q c))
  matched_upto zero h =
      sym (count_below_none k (λ c. among zero (q c)) (λ c _. elim (q c) as (λ o. among zero o ≡ false) [ None ↦ refl | Some t ↦ grind (arith, nat_tests) ]))
  matched_upto (suc m) h =
      let rest = matched_upto m (omega arith) in
      let go : (o : Option ℕ) → p m ≡ o → cond (is_some o) 1 0 + count_below m (λ t. is_some (p t)) ≡ count_below k (λ c. among (suc m) (q c)) =
      λ o. elim o as (λ o. p m ≡ o → cond (is_some o) 1 0 + count_below m (λ t. is_some (p t)) ≡ count_below k (λ c. among (suc m) (q c))) [
        | None ↦ λ at. let same = count_below_same k (λ c. among m (q c)) (λ c. among (suc m) (q c))
            (λ c c_in. among-same m (q c) (λ e. none-some c (sym at ∙ (back c m c_in e).1))) in omega arith
        | Some d ↦ λ at.
            let held = there m d (omega arith) at in
            let more = count_below_more k d (λ c. among m (q c)) (λ c. among (suc m) (q c)) held.0 (rw held.1 (grind (arith, nat_tests)))
            (rw held.1 (grind (arith, nat_tests))) (λ c c_in ne. among-same m (q c) (λ e. ne (same_Some c d (sym (back c m c_in e).1 ∙ at)))) in
            omega arith
      ] in
      go (p m) refl

  pub as_many : count_below n (λ t. is_some (p t)) ≡ count_below k (λ c. is_some (q c))
  as_many = matched_upto n (omega arith) ∙ count_below_same k (λ c. among n (q c)) (λ c. is_some (q c)) (λ c c_in.
      let go : (o : Option ℕ) → q c ≡ o → among n o ≡ is_some o = λ o. elim o as (λ o. q c ≡ o → among n o ≡ is_some o)
      [ None ↦ λ _. refl | Some t ↦ λ at. let h = (back c t c_in at).0 in grind (arith, nat_tests) ] in
      go (q c) refl)

-- ---- the transfers that use a link

cond_none : (b : Bool) (o : Option ℕ) (c : ℕ) → cond b o None ≡ Some c → (b ≡ true) × (o ≡ Some c)
cond_none true o c h = (refl, h)
cond_none false o c h = absurd (none-some c h)

-- the colour of a transfer that passes a test
unfoldable colour_if : Bool → Option ℕ → Option ℕ
colour_if b o = cond b o None

end_yes : (x : Transfer) (e : End) → (module_at e x == (end_link x e).«module») ≡ true
end_yes x Zero = eq-eqb x.initiator x.initiator refl
end_yes x Three = eq-eqb x.responder x.responder refl

uses-own : (g : List Transfer) (t : ℕ) (e : End) → uses_link g (link_at g t e) t ≡ true
unfolding uses_link link_at
uses-own g t Zero = end_yes (transfer_at g t) Zero
uses-own g t Three = end_yes (transfer_at g t) Three

-- the test is the relation
pub uses_yes : (g : List Transfer) (t : ℕ) (link : Link) → Uses g t link → uses_link g link t ≡ true
uses_yes g t link uses = subst (λ (l : Link). uses_link g l t ≡ true) (sym (uses_at g t link uses)) (uses-own g t link.end)

end_place : (x y : Transfer) (e : End) → (module_at e x == (end_link y e).«module») ≡ true → end_link x e ≡ end_link y e
end_place x y Zero h = ap (λ (m : ℕ). let l : Link = record { end = Zero; «module» = m } in l) (eqb-true _ _ h)
end_place x y Three h = ap (λ (m : ℕ). let l : Link = record { end = Three; «module» = m } in l) (eqb-true _ _ h)

uses_same : (g : List Transfer) (t u : ℕ) (e : End) → uses_link g (link_at g t e) u ≡ true → link_at g u e ≡ link_at g t e
unfolding uses_link link_at
uses_same g t u Zero h = end_place (transfer_at g u) (transfer_at g t) Zero h
uses_same g t u Three h = end_place (transfer_at g u) (transfer_at g t) Three h

same_uses : (g : List Transfer) (t u : ℕ) (e : End) → link_at g u e ≡ link_at g t e → uses_link g (link_at g t e) u ≡ true
same_uses g t u e same = subst (λ (l : Link). uses_link g l u ≡ true) same (uses-own g u e)

-- ---- as many as there are colours taken

module _ (g : List Transfer) (k : ℕ) (f h : List (Option ℕ)) (x : AreCellsOf g k f h) (t : ℕ) (e : End) where
  pub placed_uses-taken : placed_uses g f (link_at g t e) ≡ count_below k (λ c. is_some (holder_at h c (place_at g t e)))
  unfolding placed_uses colour_if
  placed_uses-taken =
      let link = link_at g t e in
      let p : ℕ → Option ℕ = λ u. colour_if (uses_link g link u) (colour_at f u) in
      let tests = count_below_same (length g) (λ u. uses_link g link u && is_some (colour_at f u)) (λ u. is_some (p u))
      (λ u _. elim (uses_link g link u) as (λ b. (b && is_some (colour_at f u)) ≡ is_some (cond b (colour_at f u) None)) [ true ↦ refl | false ↦ refl ]) in
      tests ∙ as_many (length g) k p (λ c. holder_at h c (place_at g t e))
      (λ u c u_in at.
      let both = cond_none (uses_link g link u) (colour_at f u) c at in
      let same : link_at g u e ≡ link_at g t e = uses_same g t u e both.0 in
      let held : holder_at h c (place_at g t e) ≡ Some u = subst (λ m. holder_at h c m ≡ Some u) (place-link g u t e same) (x.held u c e both.1) in
      let within : c * LINKS + place_at g t e < length h = some_within h _ u held in
      let rows = x.rows in
      (omega arith, held))
      (λ c u c_in held.
      let b = x.back c (place_at g t e) u (place_low g t e x.is_batch) held in
      let eo : b.1.0 ≡ e = same_end g u t b.1.0 e x.is_batch b.1.1 in
      let at_e : place_at g u e ≡ place_at g t e = ap (place_at g u) (sym eo) ∙ b.1.1 in
      let used : uses_link g link u ≡ true = same_uses g t u e (same_link g u t e at_e) in
      (rw (← x.sized) (some_within f u c b.0), rw used b.0))

  -- where each colour is taken at the link, as many transfers are placed there as there are colours
  pub all_taken : ((c : ℕ) → c < k → IsSome (holder_at h c (place_at g t e))) → placed_uses g f (link_at g t e) ≡ k
  all_taken taken = placed_uses-taken ∙ count_below_all k (λ c. is_some (holder_at h c (place_at g t e))) taken

  -- where one isn't, fewer
  pub one_free : (c : ℕ) → c < k → holder_at h c (place_at g t e) ≡ None → placed_uses g f (link_at g t e) < k
  one_free c c_in none = rw placed_uses-taken (count_below_lt k c (λ c. is_some (holder_at h c (place_at g t e))) c_in (ap is_some none))

-- ---- a transfer that isn't placed leaves room at its links

-- the count by numbers is the count over the list
counted_upto : (p : Transfer → Bool) (g : List Transfer) (n : ℕ) → n ≤ length g → count_below n (λ t. p (transfer_at g t)) ≡ count_by p (take n g)
counted_upto p g zero le = refl
counted_upto p g (suc n) le =
    let lt : n < length g = omega arith in
    let rest = counted_upto p g n (omega arith) in
    elim (cases_Bool (p (transfer_at g n))) [
      | inl yes' ↦ let more : count_by p (take (suc n) g) ≡ count_by p (take n g) + 1 = rw (add-one n)
          at (count_by_more_yes p g n no_transfer lt yes') in rw (yes', more) (omega (arith, rest))
      | inr no' ↦ let same : count_by p (take (suc n) g) ≡ count_by p (take n g) = rw (add-one n)
          at (count_by_more_no p g n no_transfer lt no') in rw (no', same) (omega (arith, rest))
    ]

uses-counted : (g : List Transfer) (link : Link) → count_below (length g) (uses_link g link) ≡ uses g link
unfolding uses_link
uses-counted g link =
    let test : Transfer → Bool = λ x. module_at link.end x == link.«module» in
    counted_upto test g (length g) (omega arith) ∙ ap (count_by test) (take_all (length g) g (omega arith))

pub room : (g : List Transfer) (f : List (Option ℕ)) (t : ℕ) (link : Link) → Uses g t link → colour_at f t ≡ None → placed_uses g f link < uses g link
unfolding placed_uses
room g f t link used out =
    let less = fewer (length g) t (λ u. uses_link g link u && is_some (colour_at f u)) (uses_link g link) (uses_within g t link used)
    (λ u both. (and_true (uses_link g link u) _ both).0) (uses_yes g t link used) (rw out (and_false (uses_link g link t))) in
    omega (arith, less, uses-counted g link)
