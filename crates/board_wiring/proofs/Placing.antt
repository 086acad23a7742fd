-- A usual wiring, in which two links are exchanged for each link that isn't left out.
use Rattle.std.proofs.Common.{◌≡◌, ◌≢◌, ◌<◌, ◌≤◌, ◌+◌, ◌==◌, ◌&&◌, ◌||◌, ℕ, Bool, true, false, not, List, [], ◌∷◌, ◌++◌, length, map, take, drop, get_or, All, Option, None, Some, IfSome, IfNone, zero}
use Rattle.std.proofs.Common.{suc, refl, sym, ap, ap₂, ◌∙◌, subst, IsTrue, arith, nat_lt, nat_le}
use Rattle.std.proofs.lemmas.Bool.Decides.{nat_tests}
use Rattle.std.proofs.lemmas.List.{get_or-map, get_or-take, length-map, length-take, take-append-drop, take_more}
use Rattle.std.proofs.lemmas.List.Elements.{All-push}
use Rattle.std.proofs.lemmas.List.FromFn.{get_or-map-range_with_len, length-map-range_with_len}
use Rattle.std.proofs.lemmas.List.Folds.{list_all-append, list_any-append}
use Rattle.std.proofs.lemmas.Grind.{flat_map-append}
use Rattle.c004_commands.specs.declared.port.TheConstants.{PORTS}
use Rattle.crossbar.specs.Boards.{all_links, are_distinct, both_links, is_wiring}
use Rattle.crossbar.specs.Wired.{unwired}
use Rattle.crossbar.specs.declared.module_links.ModuleLinks.{ModuleLinks}
use Rattle.crossbar.specs.declared.switch.TheConstants.{JOINED_MODULES}
use Rattle.crossbar.proofs.Boards.{are_wired as wiring_parts, never_one, one_link0, one_link3, and_left, and_right, has_all, is_on}
use Rattle.board_wiring.specs.Modules.{given, given_links, all_given, are_rising, are_wired, after_last, is_free_in, is_one}
use Rattle.board_wiring.specs.declared.wired_module.WiredModule.{WiredModule}
use Rattle.board_wiring.specs.Filling.{exchange, exchange_on, usual_links, usual_on}
use Rattle.board_wiring.proofs.Modules.{and_both, distinct_front, has_room, last_ports, goes_up, width_few, wired_front, wired_more, wired_parts}

-- ---- wirings

of_parts : (ms : List ModuleLinks) → length ms ≤ JOINED_MODULES → has_all (all_links ms) ≡ true → are_distinct (all_links ms) ≡ true → IsTrue (is_wiring ms)
of_parts ms few had distinct =
    let le : nat_le (length ms) JOINED_MODULES ≡ true = grind (arith, nat_tests) in
    let all : is_wiring ms ≡ true = and_both _ _ le (and_both _ _ had distinct) in
    subst IsTrue (sym all) refl

wiring_front : (ms ns : List ModuleLinks) → IsTrue (is_wiring (ms ++ ns)) → length ms ≤ JOINED_MODULES → IsTrue (is_wiring ms)
wiring_front ms ns own few =
    let w = wiring_parts (ms ++ ns) own in
    let split = flat_map-append both_links ms ns in
    of_parts ms few
    (and_left (has_all (all_links ms)) (has_all (all_links ns)) (sym (list_all-append (λ link. nat_lt link PORTS) (all_links ms) (all_links ns))
    ∙ ap has_all (sym split) ∙ w.had))
    (distinct_front (all_links ms) (all_links ns) (ap are_distinct (sym split) ∙ w.distinct))

-- with one module more of a wiring there is still one
pub next_wired : (all ms : List ModuleLinks) (n : ℕ) (on : ModuleLinks) → IsTrue (is_wiring all) → length all ≤ JOINED_MODULES → n < length all → ms
    ≡ take n all → get_or all n unwired ≡ on → (ms ++ on ∷ [] ≡ take (n + 1) all) × IsTrue (is_wiring (ms ++ on ∷ []))
next_wired all ms n on own few lt front at =
    let more : ms ++ on ∷ [] ≡ take (n + 1) all = ap₂ (λ (x : List ModuleLinks) (y : ModuleLinks). x ++ y ∷ []) front (sym at)
    ∙ sym (take_more all n unwired lt) in
    let whole = take-append-drop (n + 1) all in
    let len : length (take (n + 1) all) ≤ JOINED_MODULES = omega (arith, length-take (n + 1) all, few) in (
      more,
      subst (λ (x : List ModuleLinks). IsTrue (is_wiring x)) (sym more)
          (wiring_front (take (n + 1) all) (drop (n + 1) all) (subst (λ (x : List ModuleLinks). IsTrue (is_wiring x)) (sym whole) own) len),
    )

-- ---- the usual one

pub usual_wired : IsTrue (is_wiring usual_links)
usual_wired = refl

pub usual_few : length usual_links ≤ JOINED_MODULES
usual_few = omega (arith, length-map-range_with_len usual_on 0 JOINED_MODULES)

pub usual_at : (n : ℕ) → n < JOINED_MODULES → get_or usual_links n unwired ≡ usual_on n
usual_at n lt = get_or-map-range_with_len usual_on 0 JOINED_MODULES n n unwired lt (omega arith)

-- ---- two links exchanged

same_exchanged : (one other x y : ℕ) → (exchange one other y == exchange one other x) ≡ (y == x)
same_exchanged one other x y = grind (arith, nat_tests)

on_exchanged : (one other x : ℕ) (xs : List ℕ) → is_on (exchange one other x) (map (exchange one other) xs) ≡ is_on x xs
on_exchanged one other x [] = refl
on_exchanged one other x (y ∷ ys) = ap₂ (λ a b. a || b) (same_exchanged one other x y) (on_exchanged one other x ys)

distinct_exchanged : (one other : ℕ) (xs : List ℕ) → are_distinct (map (exchange one other) xs) ≡ are_distinct xs
distinct_exchanged one other [] = refl
distinct_exchanged one other (x ∷ xs) = ap₂ (λ a b. not a && b) (on_exchanged one other x xs) (distinct_exchanged one other xs)

port_exchanged : (one other x : ℕ) → one < PORTS → other < PORTS → nat_lt x PORTS ≡ true → nat_lt (exchange one other x) PORTS ≡ true
port_exchanged one other x p q h = grind (arith, nat_tests)

had_exchanged : (one other : ℕ) (xs : List ℕ) → one < PORTS → other < PORTS → has_all xs ≡ true → has_all (map (exchange one other) xs) ≡ true
had_exchanged one other [] p q h = refl
had_exchanged one other (x ∷ xs) p q h =
    and_both (nat_lt (exchange one other x) PORTS) (has_all (map (exchange one other) xs))
    (port_exchanged one other x p q (and_left (nat_lt x PORTS) (has_all xs) h)) (had_exchanged one other xs p q (and_right (nat_lt x PORTS) (has_all xs) h))

links_exchanged : (one other : ℕ) (ms : List ModuleLinks) → all_links (map (exchange_on one other) ms) ≡ map (exchange one other) (all_links ms)
links_exchanged one other [] = refl
links_exchanged one other (m ∷ ms) = ap (λ (xs : List ℕ). exchange one other m.link0 ∷ exchange one other m.link3 ∷ xs) (links_exchanged one other ms)

pub wired_exchanged : (one other : ℕ) (ms : List ModuleLinks) → one < PORTS → other < PORTS → IsTrue (is_wiring ms)
    → IsTrue (is_wiring (map (exchange_on one other) ms))
wired_exchanged one other ms p q own =
    let w = wiring_parts ms own in
    let links = links_exchanged one other ms in
    of_parts (map (exchange_on one other) ms) (omega (arith, length-map ms (exchange_on one other), w.few))
    (ap has_all links ∙ had_exchanged one other (all_links ms) p q w.had)
    (ap are_distinct links ∙ distinct_exchanged one other (all_links ms) ∙ w.distinct)

at_exchanged : (one other : ℕ) (ws : List ModuleLinks) (m : ℕ) → m < length ws → get_or (map (exchange_on one other) ws) m unwired
    ≡ exchange_on one other (get_or ws m unwired)
at_exchanged one other ws m lt = get_or-map (exchange_on one other) ws m unwired unwired lt

on_links : ℕ → ℕ → ModuleLinks
on_links a b = record { link0 = a; link3 = b }

-- one module more
pub next_exchanged : (one other : ℕ) (ws ms : List ModuleLinks) (n : ℕ) (was on : ModuleLinks) → one < PORTS → other < PORTS → IsTrue (is_wiring ws)
    → n < length ws → ms ≡ take n (map (exchange_on one other) ws) → was ≡ get_or ws n unwired → on.link0 ≡ exchange one other was.link0 → on.link3
    ≡ exchange one other was.link3
    → (ms ++ on ∷ [] ≡ take (n + 1) (map (exchange_on one other) ws)) × IsTrue (is_wiring (ms ++ on ∷ []))
unfolding on_links
next_exchanged one other ws ms n was on p q own lt front at e0 e3 =
    let len = length-map ws (exchange_on one other) in
    let w = wiring_parts ws own in
    let here = at_exchanged one other ws n lt ∙ ap (exchange_on one other) (sym at) ∙ sym (ap₂ on_links e0 e3) in
    next_wired (map (exchange_on one other) ws) ms n on (wired_exchanged one other ws p q own) (omega (arith, len, w.few)) (omega (arith, len, lt)) front here

-- ---- what is kept

-- one link of a module is on this link of the switch, where there is one
if_some : (link : Option ℕ) (P : ℕ → Type 0) → ((l : ℕ) → link ≡ Some l → P l) → IfSome link P
if_some None P f = tt
if_some (Some l) P f = f l refl

-- a module's links are where the board's wiring says
abbrev pub KeptIn : List ModuleLinks → WiredModule → Type 0
KeptIn ws on = IfSome on.link0 (λ l. (get_or ws on.number unwired).link0 ≡ l) × IfSome on.link3 (λ l. (get_or ws on.number unwired).link3 ≡ l)

-- none of a module's links is on this link of the switch
abbrev Avoids : WiredModule → ℕ → Type 0
Avoids on link = IfSome on.link0 (λ l. l ≢ link) × IfSome on.link3 (λ l. l ≢ link)

stays : (one other v : ℕ) → v ≢ one → v ≢ other → exchange one other v ≡ v
stays one other v p q = grind (arith, nat_tests)

goes : (one other : ℕ) → exchange one other one ≡ other
goes one other = grind (arith, nat_tests)

keep_part : (link : Option ℕ) (one other v w : ℕ) → w ≡ exchange one other v → v ≢ one → IfSome link (λ l. l ≢ other) → IfSome link (λ l. v ≡ l)
    → IfSome link (λ l. w ≡ l)
keep_part None one other v w e off ne is = tt
keep_part (Some k) one other v w e off ne is = e ∙ stays one other v off (λ s. ne (sym is ∙ s)) ∙ is

kept0 : (ws : List ModuleLinks) (on : WiredModule) (n l : ℕ) → IsTrue (is_wiring ws) → on.number < length ws → n < length ws → on.number ≢ n → Avoids on l
    → KeptIn ws on → KeptIn (map (exchange_on (get_or ws n unwired).link0 l) ws) on
kept0 ws on n l own a b ne avoids kept =
    let one = (get_or ws n unwired).link0 in
    let at = at_exchanged one l ws on.number a in (
      keep_part on.link0 one l _ _ (ap (λ (x : ModuleLinks). x.link0) at) (λ e. ne (one_link0 ws on.number n unwired own a b e)) avoids.0 kept.0,
      keep_part on.link3 one l _ _ (ap (λ (x : ModuleLinks). x.link3) at) (λ e. never_one ws n on.number unwired own b a (sym e)) avoids.1 kept.1,
    )

kept3 : (ws : List ModuleLinks) (on : WiredModule) (n l : ℕ) → IsTrue (is_wiring ws) → on.number < length ws → n < length ws → on.number ≢ n → Avoids on l
    → KeptIn ws on → KeptIn (map (exchange_on (get_or ws n unwired).link3 l) ws) on
kept3 ws on n l own a b ne avoids kept =
    let one = (get_or ws n unwired).link3 in
    let at = at_exchanged one l ws on.number a in (
      keep_part on.link0 one l _ _ (ap (λ (x : ModuleLinks). x.link0) at) (λ e. never_one ws on.number n unwired own a b e) avoids.0 kept.0,
      keep_part on.link3 one l _ _ (ap (λ (x : ModuleLinks). x.link3) at) (λ e. ne (one_link3 ws on.number n unwired own a b e)) avoids.1 kept.1,
    )

-- the link that was on this link of the switch is on that one, where there is one
pub record Moved (ws us : List ModuleLinks) (was : ℕ) (link : Option ℕ) : Type 0 where
  pub some : IfSome link (λ l. us ≡ map (exchange_on was l) ws)
  pub none : IfNone link (us ≡ ws)

pub moved_length : (ws us : List ModuleLinks) (was : ℕ) (link : Option ℕ) → Moved ws us was link → length us ≡ length ws
moved_length ws us was None m = ap length m.none
moved_length ws us was (Some l) m = ap length m.some ∙ length-map ws (exchange_on was l)

-- what another module is on stays
moved_kept0 : (ws us : List ModuleLinks) (on : WiredModule) (n : ℕ) (link : Option ℕ) → IsTrue (is_wiring ws) → on.number < length ws → n < length ws
    → on.number ≢ n → IfSome link (Avoids on) → Moved ws us (get_or ws n unwired).link0 link → KeptIn ws on → KeptIn us on
moved_kept0 ws us on n None own a b ne avoids m kept = subst (λ (x : List ModuleLinks). KeptIn x on) (sym m.none) kept
moved_kept0 ws us on n (Some l) own a b ne avoids m kept = subst (λ (x : List ModuleLinks). KeptIn x on) (sym m.some) (kept0 ws on n l own a b ne avoids kept)

moved_kept3 : (ws us : List ModuleLinks) (on : WiredModule) (n : ℕ) (link : Option ℕ) → IsTrue (is_wiring ws) → on.number < length ws → n < length ws
    → on.number ≢ n → IfSome link (Avoids on) → Moved ws us (get_or ws n unwired).link3 link → KeptIn ws on → KeptIn us on
moved_kept3 ws us on n None own a b ne avoids m kept = subst (λ (x : List ModuleLinks). KeptIn x on) (sym m.none) kept
moved_kept3 ws us on n (Some l) own a b ne avoids m kept = subst (λ (x : List ModuleLinks). KeptIn x on) (sym m.some) (kept3 ws on n l own a b ne avoids kept)

-- the module's own links are where they were moved
own0 : (ws us : List ModuleLinks) (n : ℕ) (link : Option ℕ) → n < length ws → Moved ws us (get_or ws n unwired).link0 link
    → IfSome link (λ l. (get_or us n unwired).link0 ≡ l)
own0 ws us n None a m = tt
own0 ws us n (Some l) a m =
    let one = (get_or ws n unwired).link0 in
    ap (λ (x : List ModuleLinks). (get_or x n unwired).link0) m.some ∙ ap (λ (x : ModuleLinks). x.link0) (at_exchanged one l ws n a) ∙ goes one l

own3 : (ws us : List ModuleLinks) (n : ℕ) (link : Option ℕ) → n < length ws → Moved ws us (get_or ws n unwired).link3 link
    → IfSome link (λ l. (get_or us n unwired).link3 ≡ l)
own3 ws us n None a m = tt
own3 ws us n (Some l) a m =
    let one = (get_or ws n unwired).link3 in
    ap (λ (x : List ModuleLinks). (get_or x n unwired).link3) m.some ∙ ap (λ (x : ModuleLinks). x.link3) (at_exchanged one l ws n a) ∙ goes one l

not_one : (a b l : ℕ) → not (is_one (Some a) (Some b)) ≡ true → a ≢ b
not_one a b l e = λ same. let is : (a == b) ≡ true = grind (arith, nat_tests) in absurd cc

own0_stays : (ws us : List ModuleLinks) (n : ℕ) (link0 link3 : Option ℕ) → IsTrue (is_wiring ws) → n < length ws → not (is_one link0 link3) ≡ true
    → Moved ws us (get_or ws n unwired).link3 link3 → IfSome link0 (λ l. (get_or ws n unwired).link0 ≡ l) → IfSome link0 (λ l. (get_or us n unwired).link0 ≡ l)
own0_stays ws us n None link3 own a other m is = tt
own0_stays ws us n (Some l) None own a other m is = ap (λ (x : List ModuleLinks). (get_or x n unwired).link0) m.none ∙ is
own0_stays ws us n (Some l) (Some k) own a other m is =
    let one = (get_or ws n unwired).link3 in
    let at = ap (λ (x : List ModuleLinks). (get_or x n unwired).link0) m.some ∙ ap (λ (x : ModuleLinks). x.link0) (at_exchanged one k ws n a) in
    keep_part (Some l) one k _ _ at (λ e. never_one ws n n unwired own a a e) (not_one l k l other) is

-- ---- links of other modules

same_is : (a : ℕ) → (a == a) ≡ true
same_is a = grind arith

or_true : (b : Bool) → (b || true) ≡ true
or_true true = refl
or_true false = refl

on_given0 : (a b : Option ℕ) (l : ℕ) → a ≡ Some l → is_on l (given a ++ given b) ≡ true
on_given0 a b l e =
    list_any-append (λ other. other == l) (given a) (given b)
    ∙ ap (λ (x : Option ℕ). is_on l (given x) || is_on l (given b)) e
    ∙ ap (λ t. (t || false) || is_on l (given b)) (same_is l)

on_given3 : (a b : Option ℕ) (l : ℕ) → b ≡ Some l → is_on l (given a ++ given b) ≡ true
on_given3 a b l e =
    list_any-append (λ other. other == l) (given a) (given b)
    ∙ ap (λ (x : Option ℕ). is_on l (given a) || is_on l (given x)) e
    ∙ ap (λ t. is_on l (given a) || (t || false)) (same_is l)
    ∙ or_true (is_on l (given a))

given_within : (ms : List WiredModule) (k : ℕ) (d : WiredModule) (l : ℕ) → k < length ms → is_on l (given_links (get_or ms k d)) ≡ true → is_on l (all_given ms)
    ≡ true
given_within [] k d l lt e = absurd (omega arith)
given_within (m ∷ ms) zero d l lt e = list_any-append (λ other. other == l) (given_links m) (all_given ms) ∙ ap (λ t. t || is_on l (all_given ms)) e
given_within (m ∷ ms) (suc k) d l lt e =
    list_any-append (λ other. other == l) (given_links m) (all_given ms)
    ∙ ap (λ t. is_on l (given_links m) || t) (given_within ms k d l (omega arith) e) ∙ or_true (is_on l (given_links m))

free_off : (xs : List ℕ) (k : ℕ) → is_free_in xs (Some k) ≡ true → is_on k xs ≡ true → ⊥
free_off xs k free on = let off = and_right (nat_lt k PORTS) (not (is_on k xs)) free in absurd cc

avoids : (xs : List ℕ) (on : WiredModule) (link : Option ℕ) → is_free_in xs link ≡ true → ((l : ℕ) → is_on l (given_links on) ≡ true → is_on l xs ≡ true)
    → IfSome link (Avoids on)
avoids xs on None free within = tt
avoids xs on (Some k) free within = (
  if_some on.link0 _ (λ l e same. free_off xs k free (subst (λ (x : ℕ). is_on x xs ≡ true) same (within l (on_given0 on.link0 on.link3 l e)))),
  if_some on.link3 _ (λ l e same. free_off xs k free (subst (λ (x : ℕ). is_on x xs ≡ true) same (within l (on_given3 on.link0 on.link3 l e)))),
)

-- the numbers of those in front are below
below_last : (l : ℕ) (ms : List WiredModule) (k : ℕ) (d : WiredModule) → are_rising l ms ≡ true → k < length ms → (get_or ms k d).number < after_last l ms
below_last l [] k d e lt = absurd (omega arith)
below_last l (m ∷ ms) zero d e lt =
    let more = goes_up (m.number + 1) ms (and_right (nat_le l m.number) (are_rising (m.number + 1) ms) e) in omega (arith, more)
below_last l (m ∷ ms) (suc k) d e lt = below_last (m.number + 1) ms k d (and_right (nat_le l m.number) (are_rising (m.number + 1) ms) e) (omega arith)

-- ---- one module more

-- the wiring is one of all modules, in which those of these are where the board's says
pub record Placed (ws : List ModuleLinks) (ms : List WiredModule) : Type 0 where
  pub all : length ws ≡ JOINED_MODULES
  pub kept : All (KeptIn ws) ms

pub one_more : (ws us vs : List ModuleLinks) (ms : List WiredModule) (new : WiredModule) → IsTrue (is_wiring ws) → IsTrue (is_wiring us) → Placed ws ms
    → IsTrue (are_wired (ms ++ new ∷ []))
    → Moved ws us (get_or ws new.number unwired).link0 new.link0 → Moved us vs (get_or us new.number unwired).link3 new.link3 → Placed vs (ms ++ new ∷ [])
one_more ws us vs ms new own_ws own_us placed own m0 m3 =
    let front = wired_front ms (new ∷ []) own in
    let parts = wired_parts ms front in
    let whole : are_wired (ms ++ new ∷ []) ≡ true = cc in
    let room : has_room ms new ≡ true = sym (wired_more ms new front) ∙ whole in
    let xs = all_given ms in
    let numbers = and_left (nat_le (after_last 0 ms) new.number && nat_lt new.number JOINED_MODULES)
    (is_free_in xs new.link0 && (is_free_in xs new.link3 && not (is_one new.link0 new.link3))) room in
    let links = and_right (nat_le (after_last 0 ms) new.number && nat_lt new.number JOINED_MODULES)
    (is_free_in xs new.link0 && (is_free_in xs new.link3 && not (is_one new.link0 new.link3))) room in
    let rises = and_left (nat_le (after_last 0 ms) new.number) (nat_lt new.number JOINED_MODULES) numbers in
    let le : after_last 0 ms ≤ new.number = grind (arith, nat_tests) in
    let known = (last_ports ms new own).0 in
    let free0 = and_left (is_free_in xs new.link0) (is_free_in xs new.link3 && not (is_one new.link0 new.link3)) links in
    let behind = and_right (is_free_in xs new.link0) (is_free_in xs new.link3 && not (is_one new.link0 new.link3)) links in
    let free3 = and_left (is_free_in xs new.link3) (not (is_one new.link0 new.link3)) behind in
    let other = and_right (is_free_in xs new.link3) (not (is_one new.link0 new.link3)) behind in
    let n = new.number in
    let all_us : length us ≡ JOINED_MODULES = moved_length ws us (get_or ws n unwired).link0 new.link0 m0 ∙ placed.all in
    let in_ws : n < length ws = omega (arith, placed.all, known) in
    let in_us : n < length us = omega (arith, all_us, known) in
    let kept : All (KeptIn vs) ms = λ k d lt.
    let on = get_or ms k d in
    let below = below_last 0 ms k d parts.rising lt in
    let ne : on.number ≢ n = λ e. omega (arith, below, le, e) in
    let within = λ (l : ℕ) (e : is_on l (given_links on) ≡ true). given_within ms k d l lt e in
    let in_on : on.number < length ws = omega (arith, below, le, in_ws) in
    let in_on_us : on.number < length us = omega (arith, below, le, in_us) in
    moved_kept3 us vs on n new.link3 own_us in_on_us in_us ne (avoids xs on new.link3 free3 within) m3
    (moved_kept0 ws us on n new.link0 own_ws in_on in_ws ne (avoids xs on new.link0 free0 within) m0 (placed.kept k d lt)) in
    record {
      all = moved_length us vs (get_or us n unwired).link3 new.link3 m3 ∙ all_us;
      kept = All-push (KeptIn vs) ms new kept (
        own0_stays us vs n new.link0 new.link3 own_us in_us other m3 (own0 ws us n new.link0 in_ws m0),
        own3 us vs n new.link3 in_us m3,
      );
    }

-- the same of the next module of a list
pub next_placed : (ws us vs : List ModuleLinks) (all items : List WiredModule) (i was0 was3 : ℕ) (d : WiredModule) → items ≡ all → i < length items
    → IsTrue (are_wired all) → IsTrue (is_wiring ws) → IsTrue (is_wiring us) → Placed ws (take i all)
    → was0 ≡ (get_or ws (get_or items i d).number unwired).link0 → Moved ws us was0 (get_or items i d).link0 → was3
    ≡ (get_or us (get_or items i d).number unwired).link3 → Moved us vs was3 (get_or items i d).link3 → Placed vs (take (i + 1) all)
next_placed ws us vs all items i was0 was3 d same lt own own_ws own_us placed e0 m0 e3 m3 =
    let new = get_or items i d in
    let in_all : i < length all = rw (sym same) lt in
    let more : take (i + 1) all ≡ take i all ++ new ∷ [] = take_more all i d in_all ∙ ap (λ (xs : List WiredModule). take i all ++ get_or xs i d ∷ [])
    (sym same) in
    let whole = take-append-drop (i + 1) all in
    let front = wired_front (take (i + 1) all) (drop (i + 1) all) (subst (λ (x : List WiredModule). IsTrue (are_wired x)) (sym whole) own) in
    let more_own = subst (λ (x : List WiredModule). IsTrue (are_wired x)) more front in
    subst (Placed vs) (sym more) (one_more ws us vs (take i all) new own_ws own_us placed more_own (rw (sym e0) m0) (rw (sym e3) m3))

-- ---- the first modules of a wiring

pub next_first : (ws ms : List ModuleLinks) (n : ℕ) (on : ModuleLinks) → IsTrue (is_wiring ws) → n < length ws → ms ≡ take n ws → on ≡ get_or ws n unwired
    → (ms ++ on ∷ [] ≡ take (n + 1) ws) × IsTrue (is_wiring (ms ++ on ∷ []))
next_first ws ms n on own lt front at = let w = wiring_parts ws own in next_wired ws ms n on own w.few lt front (sym at)

abbrev KeptAt : ModuleLinks → WiredModule → Type 0
KeptAt at on = IfSome on.link0 (λ l. at.link0 ≡ l) × IfSome on.link3 (λ l. at.link3 ≡ l)

-- those up to the last of these are where the board's wiring says
pub first_placed : (ws vs : List ModuleLinks) (all front : List WiredModule) (w : ℕ) → Placed ws front → front ≡ all → IsTrue (are_wired all) → w
    ≡ after_last 0 all → vs ≡ take w ws → (length vs ≡ w) × All (KeptIn vs) all
first_placed ws vs all front w placed same own width first =
    let few = width_few all own in
    let parts = wired_parts all own in
    let kept_all : All (KeptIn ws) all = rw (sym same) placed.kept in
    let len : length vs ≡ w = ap length first ∙ omega (arith, length-take w ws, placed.all, few, width) in (
      len,
      λ k d lt.
          let on = get_or all k d in
          let below = below_last 0 all k d parts.rising lt in
          let at : get_or vs on.number unwired ≡ get_or ws on.number unwired = ap (λ (x : List ModuleLinks). get_or x on.number unwired) first
          ∙ get_or-take w ws on.number unwired (omega (arith, below, width)) in
          subst (λ (x : ModuleLinks). KeptAt x on) (sym at) (kept_all k d lt),
    )
