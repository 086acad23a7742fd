-- The modules of a wiring: one more, and those in front.
use Rattle.std.proofs.Common.{◌≡◌, ◌<◌, ◌≤◌, ◌+◌, ◌-◌, ◌==◌, ◌&&◌, ◌||◌, ℕ, zero, suc, Bool, true, false, not, List, [], ◌∷◌, ◌++◌, length, take, get_or, Option, None, Some, refl, sym, ap, ap₂, ◌∙◌}
use Rattle.std.proofs.Common.{subst, IsTrue, arith, nat_lt, nat_le}
use Rattle.std.specs.List.{AllByRecursion, list_any, list_all}
use Rattle.std.proofs.lemmas.Bool.Decides.{nat_tests}
use Rattle.std.proofs.lemmas.List.{append-nil, length_push, take_more}
use Rattle.std.proofs.lemmas.List.Folds.{list_any-append, list_all-append}
use Rattle.std.proofs.lemmas.Grind.{flat_map-append}
use Rattle.c004_commands.specs.declared.port.TheConstants.{PORTS}
use Rattle.crossbar.specs.Boards.{are_distinct}
use Rattle.crossbar.specs.declared.switch.TheConstants.{JOINED_MODULES}
use Rattle.crossbar.proofs.Boards.{is_on, has_all, and_left, and_right, distinct_more, distinct_two}
use Rattle.board_wiring.specs.Faults.{HasPorts, IsPort}
use Rattle.board_wiring.specs.Modules.{given, given_links, all_given, are_rising, are_wired, after_last, is_at, is_free_in, is_one}
use Rattle.board_wiring.specs.declared.wired_module.WiredModule.{WiredModule}

-- whether one switch joins modules of these numbers
abbrev pub are_joined : List WiredModule → Bool
are_joined ms = list_all (λ on. nat_lt on.number JOINED_MODULES) ms

pub and_both : (a b : Bool) → a ≡ true → b ≡ true → (a && b) ≡ true
and_both true b p q = q
and_both false b p q = p

-- what is so of a wiring's modules
pub record AreWired (ms : List WiredModule) : Type 0 where
  pub rising : are_rising 0 ms ≡ true
  pub joined : are_joined ms ≡ true
  pub had : has_all (all_given ms) ≡ true
  pub distinct : are_distinct (all_given ms) ≡ true

pub wired_parts : (ms : List WiredModule) → IsTrue (are_wired ms) → AreWired ms
wired_parts ms own =
    let all : are_wired ms ≡ true = cc in
    let numbers = and_left (are_rising 0 ms && are_joined ms) (has_all (all_given ms) && are_distinct (all_given ms)) all in
    let links = and_right (are_rising 0 ms && are_joined ms) (has_all (all_given ms) && are_distinct (all_given ms)) all in
    record {
      rising = and_left (are_rising 0 ms) (are_joined ms) numbers;
      joined = and_right (are_rising 0 ms) (are_joined ms) numbers;
      had = and_left (has_all (all_given ms)) (are_distinct (all_given ms)) links;
      distinct = and_right (has_all (all_given ms)) (are_distinct (all_given ms)) links;
    }

of_parts : (ms : List WiredModule) → AreWired ms → IsTrue (are_wired ms)
of_parts ms w =
    let all : are_wired ms ≡ true = and_both _ _ (and_both _ _ w.rising w.joined) (and_both _ _ w.had w.distinct) in
    subst IsTrue (sym all) refl

-- ---- numbers

and_true : (b : Bool) → (b && true) ≡ b
and_true true = refl
and_true false = refl

and_assoc : (a b c : Bool) → (a && (b && c)) ≡ ((a && b) && c)
and_assoc true b c = refl
and_assoc false b c = refl

rising_more : (l : ℕ) (ms : List WiredModule) (on : WiredModule) → are_rising l (ms ++ on ∷ []) ≡ (are_rising l ms && nat_le (after_last l ms) on.number)
rising_more l [] on = and_true (nat_le l on.number)
rising_more l (m ∷ ms) on =
    ap (λ b. nat_le l m.number && b) (rising_more (m.number + 1) ms on) ∙ and_assoc (nat_le l m.number) (are_rising (m.number + 1) ms)
    (nat_le (after_last (m.number + 1) ms) on.number)

rising_front : (l : ℕ) (ms ns : List WiredModule) → are_rising l (ms ++ ns) ≡ true → are_rising l ms ≡ true
rising_front l [] ns e = refl
rising_front l (m ∷ ms) ns e =
    and_both (nat_le l m.number) (are_rising (m.number + 1) ms) (and_left (nat_le l m.number) (are_rising (m.number + 1) (ms ++ ns)) e)
    (rising_front (m.number + 1) ms ns (and_right (nat_le l m.number) (are_rising (m.number + 1) (ms ++ ns)) e))

-- the number after the last is that, or at least the one from which they rise
pub last_after : (l : ℕ) (ms : List WiredModule) (on : WiredModule) → after_last l (ms ++ on ∷ []) ≡ on.number + 1
last_after l [] on = refl
last_after l (m ∷ ms) on = last_after (m.number + 1) ms on

-- so it is the number after that of the last
pub width_at : (lines : List WiredModule) (count : ℕ) (d : WiredModule) → 1 ≤ count → count ≤ length lines → (get_or lines (count - 1) d).number + 1
    ≡ after_last 0 (take count lines)
width_at lines count d some le =
    let e : count ≡ count - 1 + 1 = omega arith in
    sym (ap (λ n. after_last 0 (take n lines)) e ∙ ap (after_last 0) (take_more lines (count - 1) d (omega arith)) ∙ last_after 0 (take (count - 1) lines)
    (get_or lines (count - 1) d))

pub goes_up : (l : ℕ) (ms : List WiredModule) → are_rising l ms ≡ true → l + length ms ≤ after_last l ms
goes_up l [] e = omega arith
goes_up l (m ∷ ms) e =
    let first = and_left (nat_le l m.number) (are_rising (m.number + 1) ms) e in
    let le : l ≤ m.number = grind (arith, nat_tests) in
    let more = goes_up (m.number + 1) ms (and_right (nat_le l m.number) (are_rising (m.number + 1) ms) e) in
    omega (arith, le, more)

pub stays_joined : (l : ℕ) (ms : List WiredModule) → are_joined ms ≡ true → l ≤ JOINED_MODULES → after_last l ms ≤ JOINED_MODULES
stays_joined l [] e le = le
stays_joined l (m ∷ ms) e le =
    let first = and_left (nat_lt m.number JOINED_MODULES) (are_joined ms) e in
    let lt : m.number < JOINED_MODULES = grind (arith, nat_tests) in
    stays_joined (m.number + 1) ms (and_right (nat_lt m.number JOINED_MODULES) (are_joined ms) e) (omega (arith, lt))

pub width_few : (ms : List WiredModule) → IsTrue (are_wired ms) → after_last 0 ms ≤ JOINED_MODULES
width_few ms own = stays_joined 0 ms (wired_parts ms own).joined (omega arith)

pub few_modules : (ms : List WiredModule) → IsTrue (are_wired ms) → length ms ≤ after_last 0 ms
few_modules ms own = let up = goes_up 0 ms (wired_parts ms own).rising in omega (arith, up)

-- ---- links

-- with one link more they are had and distinct just where it is free
one_free : (p on : Bool) → ((true && (p && true)) && (true && not on)) ≡ ((p && not on) && (true && true))
one_free true true = refl
one_free true false = refl
one_free false on = refl

one_free_after : (p on : Bool) → ((true && (p && true)) && (true && not on)) ≡ (true && ((p && not on) && true))
one_free_after true true = refl
one_free_after true false = refl
one_free_after false on = refl

two_free : (p0 p3 same on0 on3 : Bool)
    → ((true && (p0 && (p3 && true))) && ((true && not on0) && not (on3 || (same || false)))) ≡ ((p0 && not on0) && ((p3 && not on3) && not same))
two_free false p3 same on0 on3 = refl
two_free true false same true on3 = refl
two_free true false same false on3 = refl
two_free true true same true on3 = refl
two_free true true true false true = refl
two_free true true true false false = refl
two_free true true false false true = refl
two_free true true false false false = refl

are_links : List ℕ → Bool
are_links xs = has_all xs && are_distinct xs

free_more : (xs : List ℕ) (a b : Option ℕ) → has_all xs ≡ true → are_distinct xs ≡ true → are_links (xs ++ (given a ++ given b))
    ≡ (is_free_in xs a && (is_free_in xs b && not (is_one a b)))
unfolding are_links
free_more xs None None h d = ap are_links (append-nil xs) ∙ and_both (has_all xs) (are_distinct xs) h d
free_more xs (Some a) None h d =
    ap₂ (λ p q. p && q) (list_all-append (λ link. nat_lt link PORTS) xs (a ∷ [])) (distinct_more xs a)
    ∙ ap₂ (λ p q. (p && (nat_lt a PORTS && true)) && (q && not (is_on a xs))) h d
    ∙ one_free (nat_lt a PORTS) (is_on a xs)
free_more xs None (Some b) h d =
    ap₂ (λ p q. p && q) (list_all-append (λ link. nat_lt link PORTS) xs (b ∷ [])) (distinct_more xs b)
    ∙ ap₂ (λ p q. (p && (nat_lt b PORTS && true)) && (q && not (is_on b xs))) h d
    ∙ one_free_after (nat_lt b PORTS) (is_on b xs)
free_more xs (Some a) (Some b) h d =
    ap₂ (λ p q. p && q) (list_all-append (λ link. nat_lt link PORTS) xs (a ∷ b ∷ [])) (distinct_two xs a b)
    ∙ ap₂ (λ p q. (p && (nat_lt a PORTS && (nat_lt b PORTS && true))) && ((q && not (is_on a xs)) && not (is_on b xs || ((a == b) || false)))) h d
    ∙ two_free (nat_lt a PORTS) (nat_lt b PORTS) (a == b) (is_on a xs) (is_on b xs)

-- ---- one module more

given_more : (ms : List WiredModule) (on : WiredModule) → all_given (ms ++ on ∷ []) ≡ all_given ms ++ given_links on
given_more ms on = flat_map-append given_links ms (on ∷ []) ∙ ap (λ (x : List ℕ). all_given ms ++ x) (append-nil (given_links on))

-- whether a module may stand after the others
abbrev pub has_room : List WiredModule → WiredModule → Bool
has_room ms on =
    (nat_le (after_last 0 ms) on.number && nat_lt on.number JOINED_MODULES)
    && (is_free_in (all_given ms) on.link0 && (is_free_in (all_given ms) on.link3 && not (is_one on.link0 on.link3)))

joined_more : (p : Bool) → (true && (p && true)) ≡ p
joined_more true = refl
joined_more false = refl

pub wired_more : (ms : List WiredModule) (on : WiredModule) → IsTrue (are_wired ms) → are_wired (ms ++ on ∷ []) ≡ has_room ms on
unfolding are_links
wired_more ms on own =
    let w = wired_parts ms own in
    let links : are_links (all_given (ms ++ on ∷ []))
    ≡ (is_free_in (all_given ms) on.link0 && (is_free_in (all_given ms) on.link3 && not (is_one on.link0 on.link3))) = ap are_links (given_more ms on)
    ∙ free_more (all_given ms) on.link0 on.link3 w.had w.distinct in
    let rising : are_rising 0 (ms ++ on ∷ []) ≡ nat_le (after_last 0 ms) on.number = rising_more 0 ms on ∙ ap (λ b. b && nat_le (after_last 0 ms) on.number)
    w.rising in
    let joined : are_joined (ms ++ on ∷ []) ≡ nat_lt on.number JOINED_MODULES =
    list_all-append (λ (m : WiredModule). nat_lt m.number JOINED_MODULES) ms (on ∷ []) ∙ ap (λ b. b && (nat_lt on.number JOINED_MODULES && true)) w.joined
    ∙ joined_more (nat_lt on.number JOINED_MODULES) in
    ap₂ (λ n l. n && l) (ap₂ (λ r j. r && j) rising joined) links

-- a link is taken where it stands among those of the modules
pub taken_on : (link : ℕ) (ms : List WiredModule) → list_any (is_at link) ms ≡ is_on link (all_given ms)
taken_on link [] = refl
taken_on link (m ∷ ms) =
    ap₂ (λ a b. a || b) (sym (list_any-append (λ other. other == link) (given m.link0) (given m.link3))) (taken_on link ms)
    ∙ sym (list_any-append (λ other. other == link) (given_links m) (all_given ms))

-- where a module stands after the others they aren't as many as one switch joins
pub room_for : (ms : List WiredModule) (on : WiredModule) → IsTrue (are_wired (ms ++ on ∷ [])) → length ms < JOINED_MODULES
room_for ms on own = omega (arith, few_modules (ms ++ on ∷ []) own, width_few (ms ++ on ∷ []) own, length_push ms on)

-- ---- those in front

front_none : (a b : Bool) → not (a || b) ≡ true → not a ≡ true
front_none true b e = e
front_none false b e = refl

pub distinct_front : (xs ys : List ℕ) → are_distinct (xs ++ ys) ≡ true → are_distinct xs ≡ true
distinct_front [] ys e = refl
distinct_front (x ∷ xs) ys e =
    let on : List ℕ → Bool = λ zs. is_on x zs in
    let first = and_left (not (on (xs ++ ys))) (are_distinct (xs ++ ys)) e in
    and_both (not (on xs)) (are_distinct xs)
    (front_none (on xs) (on ys) (ap (λ b. not b) (sym (list_any-append (λ other. other == x) xs ys)) ∙ first))
    (distinct_front xs ys (and_right (not (on (xs ++ ys))) (are_distinct (xs ++ ys)) e))

pub wired_front : (ms ns : List WiredModule) → IsTrue (are_wired (ms ++ ns)) → IsTrue (are_wired ms)
wired_front ms ns own =
    let w = wired_parts (ms ++ ns) own in
    let split = flat_map-append given_links ms ns in
    of_parts ms (record {
      rising = rising_front 0 ms ns w.rising;
      joined = and_left (are_joined ms) (are_joined ns) (sym (list_all-append (λ (m : WiredModule). nat_lt m.number JOINED_MODULES) ms ns) ∙ w.joined);
      had = and_left (has_all (all_given ms)) (has_all (all_given ns)) (sym (list_all-append (λ link. nat_lt link PORTS) (all_given ms) (all_given ns))
          ∙ ap has_all (sym split) ∙ w.had);
      distinct = distinct_front (all_given ms) (all_given ns) (ap are_distinct (sym split) ∙ w.distinct);
    })

-- ---- what a module is on

abbrev pub Ported : List WiredModule → Type 0
Ported ms = AllByRecursion HasPorts ms

port_given : (l : Option ℕ) → has_all (given l) ≡ true → IsPort l
port_given None e = tt
port_given (Some l) e = let first = and_left (nat_lt l PORTS) true e in grind (arith, nat_tests)

ported_parts : (ms : List WiredModule) → are_joined ms ≡ true → has_all (all_given ms) ≡ true → Ported ms
ported_parts [] j h = tt
ported_parts (m ∷ ms) j h =
    let has : List ℕ → Bool = λ xs. has_all xs in
    let split = sym (list_all-append (λ link. nat_lt link PORTS) (given_links m) (all_given ms)) ∙ h in
    let own = sym (list_all-append (λ link. nat_lt link PORTS) (given m.link0) (given m.link3)) ∙ and_left (has (given_links m)) (has (all_given ms)) split in
    let first = and_left (nat_lt m.number JOINED_MODULES) (are_joined ms) j in
    let lt : m.number < JOINED_MODULES = grind (arith, nat_tests) in (
      (
        lt,
        port_given m.link0 (and_left (has (given m.link0)) (has (given m.link3)) own),
        port_given m.link3 (and_right (has (given m.link0)) (has (given m.link3)) own),
      ),
      ported_parts ms (and_right (nat_lt m.number JOINED_MODULES) (are_joined ms) j) (and_right (has (given_links m)) (has (all_given ms)) split),
    )

pub ported : (ms : List WiredModule) → IsTrue (are_wired ms) → Ported ms
ported ms own = let w = wired_parts ms own in ported_parts ms w.joined w.had

last_of : (ms : List WiredModule) (on : WiredModule) → Ported (ms ++ on ∷ []) → HasPorts on
last_of [] on p = p.0
last_of (m ∷ ms) on p = last_of ms on p.1

pub last_ports : (ms : List WiredModule) (on : WiredModule) → IsTrue (are_wired (ms ++ on ∷ [])) → HasPorts on
last_ports ms on own = last_of ms on (ported (ms ++ on ∷ []) own)

-- each is on links that the switch has
ported_at : (ms : List WiredModule) (k : ℕ) (d : WiredModule) → Ported ms → k < length ms → HasPorts (get_or ms k d)
ported_at [] k d p lt = absurd (omega arith)
ported_at (m ∷ ms) zero d p lt = p.0
ported_at (m ∷ ms) (suc k) d p lt = ported_at ms k d p.1 (omega arith)

pub has_ports : (ms items : List WiredModule) (k : ℕ) (d : WiredModule) → items ≡ ms → IsTrue (are_wired ms) → k < length items → HasPorts (get_or items k d)
has_ports ms items k d same own lt = rw same (ported_at ms k d (ported ms own) (rw (sym same) lt))
