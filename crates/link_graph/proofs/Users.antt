-- The transfers that use a link, and how many they are.
use Rattle.std.proofs.Common.{◌≡◌, ◌≢◌, ℕ, ◌+◌, ◌<◌, ◌≤◌, suc, zero, cond, List, [], ◌∷◌, ◌++◌, length, get_or, take, All, refl, sym, ap, subst, ◌∙◌, arith, inl, inr, ◌⊎◌, Some, slice_get}
use Rattle.std.specs.Prelude.{◌==◌, AllPairs, Contains}
use Rattle.std.proofs.lemmas.Bool.{cases_lt}
use Rattle.std.proofs.lemmas.Bool.Decides.{eqb_tells}
use Rattle.std.proofs.lemmas.List.{take_more, take_all, length_push}
use Rattle.std.proofs.lemmas.List.Elements.{All-push, All-weaker, All-contains, Contains-append_left, Contains-push}
use Rattle.std.proofs.lemmas.List.Quantifiers.{all_pairs_push}
use Rattle.std.proofs.lemmas.List.Sums.{sum_by_push, count_by-le-length}
use Rattle.std.proofs.lemmas.Option.{slice_get_cases, slice_get_within, get_or_from_slice_get, slice_get-get_or}
use Rattle.batch.specs.declared.transfer.Transfer.{Transfer}
use Rattle.batch.proofs.Lists.{at_cons}
use Rattle.link_graph.specs.declared.link.End.{End}
use Rattle.link_graph.specs.declared.link.End.TheVariants.{Zero, Three}
use Rattle.link_graph.specs.declared.link.Link.{Link}
use Rattle.link_graph.specs.Uses.{Uses, start_link, answer_link}
use Rattle.link_graph.specs.Counts.{module_at, uses, AreUsers}
use Rattle.link_graph.proofs.Sums.{later, first_with}

pub some_same : {X : Type 0} (x y : X) → Some x ≡ Some y → x ≡ y
some_same x y e = cc

-- ---- one transfer at one link

-- a link
abbrev pub made : End → ℕ → Link
made e m = record { end = e; «module» = m }

is_one_of : (e : End) (m : ℕ) (x : Transfer) → module_at e x ≡ m → (made e m ≡ start_link x) ⊎ (made e m ≡ answer_link x)
is_one_of Zero m x p = inl (ap (made Zero) (sym p))
is_one_of Three m x p = inr (ap (made Three) (sym p))

-- a transfer with the link's module at the link's end uses it
pub uses_at : (batch : List Transfer) (t : ℕ) (link : Link) (x : Transfer) → slice_get batch t ≡ Some x → module_at link.end x ≡ link.«module»
    → Uses batch t link
uses_at batch t link x here p = (x, here, is_one_of link.end link.«module» x p)

-- and no other does
pub at_used : (batch : List Transfer) (t : ℕ) (link : Link) (x : Transfer) → slice_get batch t ≡ Some x → Uses batch t link → module_at link.end x
    ≡ link.«module»
at_used batch t link x here used =
    let same : used.0 ≡ x = some_same used.0 x (sym used.1 ∙ here) in
    let Has : Transfer → Link → Type 0 = λ y l. module_at l.end y ≡ l.«module» in
    subst (λ (y : Transfer). Has y link) same (elim used.2 [ inl e ↦ subst (Has used.0) (sym e) refl | inr e ↦ subst (Has used.0) (sym e) refl ])

pub used_within : (batch : List Transfer) (t : ℕ) (link : Link) → Uses batch t link → t < length batch
used_within batch t link used = slice_get_within batch t used.0 used.1

-- ---- one more transfer

-- 1 where the transfer uses the link
abbrev pub use_of : Link → Transfer → ℕ
use_of link x = cond (module_at link.end x == link.«module») 1 0

pub uses_push : (xs : List Transfer) (x : Transfer) (link : Link) → uses (xs ++ x ∷ []) link ≡ uses xs link + use_of link x
uses_push xs x link = sum_by_push (λ y. use_of link y) xs x

pub uses_few : (xs : List Transfer) (link : Link) → uses xs link ≤ length xs
uses_few xs link = count_by-le-length (λ x. module_at link.end x == link.«module») xs

pub use_yes : (link : Link) (x : Transfer) → module_at link.end x ≡ link.«module» → use_of link x ≡ 1
use_yes link x e = elim (eqb_tells (module_at link.end x) link.«module») [ inl p ↦ rw p.0 refl | inr p ↦ absurd (p.1 e) ]

pub use_no : (link : Link) (x : Transfer) → module_at link.end x ≢ link.«module» → use_of link x ≡ 0
use_no link x ne = elim (eqb_tells (module_at link.end x) link.«module») [ inl p ↦ absurd (ne p.1) | inr p ↦ rw p.0 refl ]

-- ---- the users among the first t transfers

pub record UsersBelow (batch : List Transfer) (link : Link) (t : ℕ) (users : List ℕ) : Type 0 where
  pub ascending : AllPairs (λ a b. a < b) users
  pub each : All (λ u. (u < t) × Uses batch u link) users
  pub every : (u : ℕ) → u < t → Uses batch u link → Contains users u
  pub count : length users ≡ uses (take t batch) link

pub no_users : (batch : List Transfer) (link : Link) → UsersBelow batch link 0 []
no_users batch link = record {
  ascending = λ i j d lt inside. absurd (omega arith);
  each = λ k d lt. absurd (omega arith);
  every =
      λ u lt. absurd (omega arith);
  count = refl;
}

-- transfer t uses the link
pub one_user : (batch : List Transfer) (link : Link) (t : ℕ) (users : List ℕ) → UsersBelow batch link t users → Uses batch t link
    → UsersBelow batch link (t + 1) (users ++ t ∷ [])
one_user batch link t users b used =
    let inside : t < length batch = used_within batch t link used in
    let x : Transfer = used.0 in
    let at : get_or batch t x ≡ x = get_or_from_slice_get batch t x x used.1 in
    record {
      ascending = all_pairs_push (λ a c. a < c) users t b.ascending (λ k d lt. (b.each k d lt).0);
      each = All-push (λ u. (u < t + 1) × Uses batch u link) users t (All-weaker (λ u. (u < t) × Uses batch u link) (λ u. (u < t + 1) × Uses batch u link)
          (λ u p. (omega (arith, p.0), p.1)) users b.each) (omega arith, used);
      every = λ u lt is. elim (cases_lt u t) [
        | inl less ↦ Contains-append_left users (t ∷ []) u (b.every u less is)
        | inr more ↦ subst (λ (v : ℕ). Contains (users ++ t ∷ []) v) (omega arith) (Contains-push users t)
      ];
      count =
          let more : uses (take (t + 1) batch) link ≡ uses (take t batch) link + use_of link (get_or batch t x) = ap (λ (xs : List Transfer). uses xs link)
          (take_more batch t x inside) ∙ uses_push (take t batch) (get_or batch t x) link in
          let one : use_of link (get_or batch t x) ≡ 1 =
          use_yes link (get_or batch t x) (subst (λ (y : Transfer). module_at link.end y ≡ link.«module») (sym at) (at_used batch t link x used.1 used)) in
          omega (arith, more, one, b.count, length_push users t);
    }

-- transfer t does not
pub other_user : (batch : List Transfer) (link : Link) (t : ℕ) (users : List ℕ) → t < length batch → UsersBelow batch link t users → (Uses batch t link → ⊥)
    → UsersBelow batch link (t + 1) users
other_user batch link t users inside b not_used =
    elim (slice_get_cases batch t).1 [
      | inl p ↦
          let x : Transfer = p.0 in
          record {
            ascending = b.ascending;
            each = All-weaker (λ u. (u < t) × Uses batch u link) (λ u. (u < t + 1) × Uses batch u link) (λ u q. (omega (arith, q.0), q.1)) users b.each;
            every = λ u lt is. elim (cases_lt u t) [
              | inl less ↦ b.every u less is
              | inr more ↦ absurd (not_used (subst (λ (v : ℕ). Uses batch v link) (omega arith) is))
            ];
            count =
                let more : uses (take (t + 1) batch) link ≡ uses (take t batch) link + use_of link (get_or batch t x) =
                ap (λ (xs : List Transfer). uses xs link) (take_more batch t x inside) ∙ uses_push (take t batch) (get_or batch t x) link in
                let none : use_of link (get_or batch t x) ≡ 0 =
                use_no link (get_or batch t x) (λ e. not_used (uses_at batch t link (get_or batch t x) (slice_get-get_or batch t x inside) e)) in
                omega (arith, more, none, b.count);
          }
      | inr p ↦ absurd (omega (arith, p.0))
    ]

-- all of them
pub all_users : (batch : List Transfer) (link : Link) (t : ℕ) (users : List ℕ) → length batch ≤ t → UsersBelow batch link t users → AreUsers batch link users
    × (length users ≡ uses batch link)
all_users batch link t users le b = (
  record {
    ascending = b.ascending;
    each = All-weaker (λ u. (u < t) × Uses batch u link) (λ u. Uses batch u link) (λ u p. p.1) users b.each;
    every = λ u is. b.every u (omega (arith, le, used_within batch u link is)) is;
  },
  b.count ∙ ap (λ (xs : List Transfer). uses xs link) (take_all t batch le),
)

-- ---- the law of counting

pub uses_or_not : (batch : List Transfer) (link : Link) (t : ℕ) → Uses batch t link ⊎ (Uses batch t link → ⊥)
uses_or_not batch link t =
    elim (slice_get_cases batch t).1 [
      | inl p ↦
          let x : Transfer = p.0 in
          elim (eqb_tells (module_at link.end x) link.«module») [
            | inl q ↦ inl (uses_at batch t link x p.2 q.1)
            | inr q ↦ inr (λ used. q.1 (at_used batch t link x p.2 used))
          ]
      | inr p ↦ inr (λ used. omega (arith, p.0, used_within batch t link used))
    ]

pub some_users : (batch : List Transfer) (link : Link) (t : ℕ) → t ≤ length batch → (users : List ℕ) × UsersBelow batch link t users
some_users batch link zero le = ([], no_users batch link)
some_users batch link (suc t) le =
    let before = some_users batch link t (omega arith) in
    let Below : ℕ → List ℕ → Type 0 = UsersBelow batch link in
    let next : t + 1 ≡ suc t = omega arith in
    elim (uses_or_not batch link t) [
      | inl used ↦ (before.0 ++ t ∷ [], subst (λ (s : ℕ). Below s (before.0 ++ t ∷ [])) next (one_user batch link t before.0 before.1 used))
      | inr not_used ↦ (before.0, subst (λ (s : ℕ). Below s before.0) next (other_user batch link t before.0 (omega arith) before.1 not_used))
    ]

abbrev Ascending : List ℕ → Type 0
Ascending xs = AllPairs (λ a b. a < b) xs

at_head : (x : ℕ) (xs : List ℕ) → Contains (x ∷ xs) x
at_head x xs = (0, omega arith, refl)

in_tail : (x t : ℕ) (xs : List ℕ) → Contains xs t → Contains (x ∷ xs) t
in_tail x t xs (k, lt, at) = (suc k, omega arith, at)

above_head : (x t : ℕ) (xs : List ℕ) → Ascending (x ∷ xs) → Contains xs t → x < t
above_head x t xs up inside = All-contains (λ u. x < u) xs t (first_with (λ a b. a < b) x xs up) inside

not_below : (x y : ℕ) (xs ys : List ℕ) → Ascending (y ∷ ys) → Contains (y ∷ ys) x → y ≤ x
not_below x y xs ys up inside = elim (at_cons y x ys inside) [ inl e ↦ omega arith | inr behind ↦ omega (arith, above_head y x ys up behind) ]

within_tail : (x y : ℕ) (xs ys : List ℕ) → x ≡ y → Ascending (x ∷ xs) → ((t : ℕ) → Contains (x ∷ xs) t → Contains (y ∷ ys) t) → (t : ℕ) → Contains xs t
    → Contains ys t
within_tail x y xs ys same up sub t inside =
    elim (at_cons y t ys (sub t (in_tail x t xs inside))) [ inl e ↦ absurd (omega (arith, above_head x t xs up inside)) | inr behind ↦ behind ]

-- ascending lists of the same numbers are equally long
same_members : (xs ys : List ℕ) → Ascending xs → Ascending ys → ((t : ℕ) → Contains xs t → Contains ys t) → ((t : ℕ) → Contains ys t → Contains xs t)
    → length xs ≡ length ys
same_members [] [] up_x up_y sub sup = refl
same_members [] (y ∷ ys) up_x up_y sub sup = absurd (omega (arith, (sup y (at_head y ys)).1))
same_members (x ∷ xs) [] up_x up_y sub sup = absurd (omega (arith, (sub x (at_head x xs)).1))
same_members (x ∷ xs) (y ∷ ys) up_x up_y sub sup =
    let same : x ≡ y = omega (arith, not_below x y xs ys up_y (sub x (at_head x xs)), not_below y x ys xs up_x (sup y (at_head y ys))) in
    let rest = same_members xs ys (later (λ a b. a < b) x xs up_x) (later (λ a b. a < b) y ys up_y) (within_tail x y xs ys same up_x sub)
    (within_tail y x ys xs (sym same) up_y sup) in
    omega (arith, rest)

pub counted : (batch : List Transfer) (link : Link) (users : List ℕ) → AreUsers batch link users → length users ≡ uses batch link
counted batch link users u =
    let some = some_users batch link (length batch) (omega arith) in
    let all = all_users batch link (length batch) some.0 (omega arith) some.1 in
    same_members users some.0 u.ascending all.0.ascending (λ t inside. all.0.every t (All-contains (λ v. Uses batch v link) users t u.each inside))
    (λ t inside. u.every t (All-contains (λ v. Uses batch v link) some.0 t all.0.each inside)) ∙ all.1
