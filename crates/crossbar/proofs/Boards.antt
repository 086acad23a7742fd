-- The links of a board's wiring: one module more, and that each link stands once.
use Rattle.std.proofs.lemmas.Bool.Decides.{nat_tests}
use Rattle.std.proofs.Common.{◌≡◌, ◌<◌, ◌≤◌, ◌+◌, ◌*◌, ◌==◌, ◌&&◌, ◌||◌, ℕ, zero, suc, Bool, true, false, not, List, [], ◌∷◌, ◌++◌, length, get_or, refl, sym, ap, ap₂, ◌∙◌, subst, IsTrue, arith}
use Rattle.std.proofs.Common.{append_assoc, nat_lt, nat_le}
use Rattle.std.specs.List.{list_any, list_all}
use Rattle.std.proofs.lemmas.List.{length-append}
use Rattle.std.proofs.lemmas.List.Folds.{list_any-append, list_all-append, list_any_at}
use Rattle.std.proofs.lemmas.Grind.{flat_map-append}
use Rattle.c004_commands.specs.declared.port.TheConstants.{PORTS}
use Rattle.crossbar.specs.Boards.{both_links, all_links, is_at, are_distinct, is_wiring}
use Rattle.crossbar.specs.declared.module_links.ModuleLinks.{ModuleLinks}
use Rattle.crossbar.specs.declared.switch.TheConstants.{JOINED_MODULES}

-- whether a link stands among others
abbrev pub is_on : ℕ → List ℕ → Bool
is_on link links = list_any (λ other. other == link) links

-- whether the switch has the links
abbrev pub has_all : List ℕ → Bool
has_all links = list_all (λ link. nat_lt link PORTS) links

same_test : (a b : ℕ) → (a == b) ≡ (b == a)
same_test a b = grind arith

-- ---- one more

regroup : (a b d e : Bool) → (not (a || (b || false)) && (d && not e)) ≡ ((not a && d) && not (b || e))
regroup true b d e = refl
regroup false true true e = refl
regroup false true false e = refl
regroup false false d e = refl

pub distinct_more : (xs : List ℕ) (x : ℕ) → are_distinct (xs ++ x ∷ []) ≡ (are_distinct xs && not (is_on x xs))
distinct_more [] x = refl
distinct_more (y ∷ ys) x =
    ap₂ (λ a d. not a && d) (list_any-append (λ other. other == y) ys (x ∷ [])) (distinct_more ys x)
    ∙ ap (λ b. not (is_on y ys || (b || false)) && (are_distinct ys && not (is_on x ys))) (same_test x y)
    ∙ regroup (is_on y ys) (y == x) (are_distinct ys) (is_on x ys)

pub all_links_more : (ms : List ModuleLinks) (m : ModuleLinks) → all_links (ms ++ m ∷ []) ≡ all_links ms ++ m.link0 ∷ m.link3 ∷ []
all_links_more ms m = flat_map-append both_links ms (m ∷ [])

pub distinct_two : (xs : List ℕ) (x y : ℕ) → are_distinct (xs ++ x ∷ y ∷ [])
    ≡ ((are_distinct xs && not (is_on x xs)) && not (is_on y xs || ((x == y) || false)))
distinct_two xs x y =
    ap are_distinct (sym (append_assoc xs (x ∷ []) (y ∷ []))) ∙ distinct_more (xs ++ x ∷ []) y
    ∙ ap₂ (λ a b. a && not b) (distinct_more xs x) (list_any-append (λ other. other == y) xs (x ∷ []))

-- what is so where modules are wired
pub record AreWired (ms : List ModuleLinks) : Type 0 where
  pub few : length ms ≤ JOINED_MODULES
  pub had : has_all (all_links ms) ≡ true
  pub distinct : are_distinct (all_links ms) ≡ true

pub and_left : (a b : Bool) → (a && b) ≡ true → a ≡ true
and_left true b e = refl
and_left false b e = e

pub and_right : (a b : Bool) → (a && b) ≡ true → b ≡ true
and_right true b e = e
and_right false b e = absurd cc

pub are_wired : (ms : List ModuleLinks) → IsTrue (is_wiring ms) → AreWired ms
are_wired ms own =
    let all : is_wiring ms ≡ true = cc in
    let room = and_left (nat_le (length ms) JOINED_MODULES) (has_all (all_links ms) && are_distinct (all_links ms)) all in
    let rest = and_right (nat_le (length ms) JOINED_MODULES) (has_all (all_links ms) && are_distinct (all_links ms)) all in
    record {
      few = grind (arith, nat_tests);
      had = and_left (has_all (all_links ms)) (are_distinct (all_links ms)) rest;
      distinct = and_right (has_all (all_links ms)) (are_distinct (all_links ms)) rest;
    }

-- with the links of one module more it is a wiring just where the switch has them and they are free
few_more : (room p0 p3 same on0 on3 : Bool)
    → (room && ((true && (p0 && (p3 && true))) && ((true && not on0) && not (on3 || (same || false)))))
    ≡ (room && (p0 && (p3 && (not same && (not on0 && not on3)))))
few_more false p0 p3 same on0 on3 = refl
few_more true false p3 same on0 on3 = refl
few_more true true false same on0 on3 = refl
few_more true true true true true true = refl
few_more true true true true true false = refl
few_more true true true true false true = refl
few_more true true true true false false = refl
few_more true true true false true on3 = refl
few_more true true true false false true = refl
few_more true true true false false false = refl

-- whether links are had and free
abbrev pub are_free : List ModuleLinks → ModuleLinks → Bool
are_free ms m =
    nat_lt m.link0 PORTS && (nat_lt m.link3 PORTS && (not (m.link0 == m.link3) && (not (is_on m.link0 (all_links ms)) && not (is_on m.link3 (all_links ms)))))

pub wiring_more : (ms : List ModuleLinks) (m : ModuleLinks) → IsTrue (is_wiring ms)
    → is_wiring (ms ++ m ∷ []) ≡ (nat_le (length (ms ++ m ∷ [])) JOINED_MODULES && are_free ms m)
wiring_more ms m own =
    let w = are_wired ms own in
    let room = nat_le (length (ms ++ m ∷ [])) JOINED_MODULES in
    let xs = all_links ms in
    ap (λ (ls : List ℕ). room && (has_all ls && are_distinct ls)) (all_links_more ms m)
    ∙ ap₂ (λ h d. room && (h && d)) (list_all-append (λ link. nat_lt link PORTS) xs (m.link0 ∷ m.link3 ∷ [])) (distinct_two xs m.link0 m.link3)
    ∙ ap₂ (λ a b. room &&
    ((a && (nat_lt m.link0 PORTS && (nat_lt m.link3 PORTS && true))) &&
    ((b && not (is_on m.link0 xs)) && not (is_on m.link3 xs || ((m.link0 == m.link3) || false))))) w.had w.distinct
    ∙ few_more room (nat_lt m.link0 PORTS) (nat_lt m.link3 PORTS) (m.link0 == m.link3) (is_on m.link0 xs) (is_on m.link3 xs)

or_assoc : (a b c : Bool) → ((a || b) || c) ≡ (a || (b || c))
or_assoc true b c = refl
or_assoc false b c = refl

-- a link is taken where it stands among those of the modules
taken_on : (link : ℕ) (ms : List ModuleLinks) → list_any (is_at link) ms ≡ is_on link (all_links ms)
taken_on link [] = refl
taken_on link (m ∷ ms) =
    ap (λ r. (m.link0 == link || m.link3 == link) || r) (taken_on link ms)
    ∙ or_assoc (m.link0 == link) (m.link3 == link) (is_on link (all_links ms))

-- the test that a module has room, in the words of a wiring
pub has_room : (ms : List ModuleLinks) (m : ModuleLinks) → IsTrue (is_wiring ms) → length ms + 1 ≤ JOINED_MODULES → m.link0 < PORTS → m.link3 < PORTS
    → (not (m.link0 == m.link3) && (not (list_any (is_at m.link0) ms) && not (list_any (is_at m.link3) ms))) ≡ is_wiring (ms ++ m ∷ [])
has_room ms m own few p0 p3 =
    let room : nat_le (length (ms ++ m ∷ [])) JOINED_MODULES ≡ true = grind (arith, nat_tests, length-append ms (m ∷ [])) in
    let q0 : nat_lt m.link0 PORTS ≡ true = grind (arith, nat_tests) in
    let q3 : nat_lt m.link3 PORTS ≡ true = grind (arith, nat_tests) in
    ap₂ (λ a b. not (m.link0 == m.link3) && (not a && not b)) (taken_on m.link0 ms) (taken_on m.link3 ms)
    ∙ sym (
    wiring_more ms m own
    ∙ ap (λ r. r && are_free ms m) room
    ∙ ap₂ (λ a b. a && (b && (not (m.link0 == m.link3) && (not (is_on m.link0 (all_links ms)) && not (is_on m.link3 (all_links ms)))))) q0 q3
    )

-- ---- where links stand

pub link0_at : (ms : List ModuleLinks) (m : ℕ) (d : ModuleLinks) → m < length ms → get_or (all_links ms) (2 * m) 0 ≡ (get_or ms m d).link0
link0_at [] m d lt = absurd (omega arith)
link0_at (x ∷ xs) zero d lt = refl
link0_at (x ∷ xs) (suc m) d lt =
    let e : 2 * suc m ≡ suc (suc (2 * m)) = omega arith in
    ap (λ k. get_or (all_links (x ∷ xs)) k 0) e ∙ link0_at xs m d (omega arith)

pub link3_at : (ms : List ModuleLinks) (m : ℕ) (d : ModuleLinks) → m < length ms → get_or (all_links ms) (2 * m + 1) 0 ≡ (get_or ms m d).link3
link3_at [] m d lt = absurd (omega arith)
link3_at (x ∷ xs) zero d lt = refl
link3_at (x ∷ xs) (suc m) d lt =
    let e : 2 * suc m + 1 ≡ suc (suc (2 * m + 1)) = omega arith in
    ap (λ k. get_or (all_links (x ∷ xs)) k 0) e ∙ link3_at xs m d (omega arith)

length_links : (ms : List ModuleLinks) → length (all_links ms) ≡ 2 * length ms
length_links [] = refl
length_links (m ∷ ms) = omega (arith, length_links ms)

-- a link that stands first stands nowhere else
first_once : (x : ℕ) (xs : List ℕ) (i : ℕ) → not (is_on x xs) ≡ true → i < length xs → get_or xs i 0 ≡ x → ⊥
first_once x xs i new lt same =
    let on : is_on x xs ≡ true = list_any_at (λ other. other == x) xs i 0 lt (grind (arith, nat_tests)) in absurd cc

-- one link stands in one place
one_place : (xs : List ℕ) (i j : ℕ) → are_distinct xs ≡ true → i < length xs → j < length xs → get_or xs i 0 ≡ get_or xs j 0 → i ≡ j
one_place [] i j d a b e = absurd (omega arith)
one_place (x ∷ xs) zero zero d a b e = refl
one_place (x ∷ xs) zero (suc j) d a b e = absurd (first_once x xs j (and_left (not (is_on x xs)) (are_distinct xs) d) (omega arith) (sym e))
one_place (x ∷ xs) (suc i) zero d a b e = absurd (first_once x xs i (and_left (not (is_on x xs)) (are_distinct xs) d) (omega arith) e)
one_place (x ∷ xs) (suc i) (suc j) d a b e = ap suc (one_place xs i j (and_right (not (is_on x xs)) (are_distinct xs) d) (omega arith) (omega arith) e)

-- link 0 of a module is nowhere that link 3 of one is
pub never_one : (ms : List ModuleLinks) (m n : ℕ) (d : ModuleLinks) → IsTrue (is_wiring ms) → m < length ms → n < length ms → (get_or ms m d).link0
    ≡ (get_or ms n d).link3 → ⊥
never_one ms m n d own a b e =
    let w = are_wired ms own in
    let same = one_place (all_links ms) (2 * m) (2 * n + 1) w.distinct (omega (arith, length_links ms)) (omega (arith, length_links ms))
    (link0_at ms m d a ∙ e ∙ sym (link3_at ms n d b)) in
    omega arith

-- the links 0 of two modules are two
pub one_link0 : (ms : List ModuleLinks) (m n : ℕ) (d : ModuleLinks) → IsTrue (is_wiring ms) → m < length ms → n < length ms → (get_or ms m d).link0
    ≡ (get_or ms n d).link0 → m ≡ n
one_link0 ms m n d own a b e =
    let w = are_wired ms own in
    let same = one_place (all_links ms) (2 * m) (2 * n) w.distinct (omega (arith, length_links ms)) (omega (arith, length_links ms))
    (link0_at ms m d a ∙ e ∙ sym (link0_at ms n d b)) in
    omega arith

-- the links 3 of two modules are two
pub one_link3 : (ms : List ModuleLinks) (m n : ℕ) (d : ModuleLinks) → IsTrue (is_wiring ms) → m < length ms → n < length ms → (get_or ms m d).link3
    ≡ (get_or ms n d).link3 → m ≡ n
one_link3 ms m n d own a b e =
    let w = are_wired ms own in
    let same = one_place (all_links ms) (2 * m + 1) (2 * n + 1) w.distinct (omega (arith, length_links ms)) (omega (arith, length_links ms))
    (link3_at ms m d a ∙ e ∙ sym (link3_at ms n d b)) in
    omega arith

-- the switch has a link that stands anywhere
had_at : (xs : List ℕ) (i : ℕ) → has_all xs ≡ true → i < length xs → get_or xs i 0 < PORTS
had_at [] i h lt = absurd (omega arith)
had_at (x ∷ xs) zero h lt = let first = and_left (nat_lt x PORTS) (has_all xs) h in grind (arith, nat_tests)
had_at (x ∷ xs) (suc i) h lt = had_at xs i (and_right (nat_lt x PORTS) (has_all xs) h) (omega arith)

-- it has those of a module
pub had : (ms : List ModuleLinks) (m : ℕ) (d : ModuleLinks) → IsTrue (is_wiring ms) → m < length ms → ((get_or ms m d).link0 < PORTS)
    × ((get_or ms m d).link3 < PORTS)
had ms m d own lt =
    let w = are_wired ms own in (
      subst (λ (n : ℕ). n < PORTS) (link0_at ms m d lt) (had_at (all_links ms) (2 * m) w.had (omega (arith, length_links ms))),
      subst (λ (n : ℕ). n < PORTS) (link3_at ms m d lt) (had_at (all_links ms) (2 * m + 1) w.had (omega (arith, length_links ms))),
    )
