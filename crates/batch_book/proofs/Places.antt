-- Places of entries, notes up to a place, and what each side noted last.
use Rattle.std.proofs.Common.{◌≡◌, ℕ, suc, ◌+◌, ◌-◌, ◌<◌, ◌≤◌, Bool, true, false, ◌&&◌, List, [], ◌∷◌, ◌++◌, length, take, nat_eq, nat_le, cond, filter, if◌then◌else◌, Option, Some, None, Result, Ok}
use Rattle.std.proofs.Common.{Err, refl, sym, ap, ◌∙◌, append-nil, true≢false, arith}
use Rattle.std.proofs.Math.Seq.{take-nil}
use Rattle.std.proofs.lemmas.Bool.{and_parts, and_from, leb-true, leb-false, le-leb, eqb-true, eq-eqb}
use Rattle.std.proofs.lemmas.List.Elements.{filter-append}
use Rattle.batch_book.specs.declared.call.Call.{Call}
use Rattle.batch_book.specs.declared.entry.Entry.{Entry}
use Rattle.batch_book.specs.declared.reply.Reply.{Reply}
use Rattle.batch_book.specs.declared.unrecorded.Unrecorded.{Unrecorded}
use Rattle.std.specs.Prelude.{is_none}
use Rattle.batch_book.specs.Recording.{Noted, entry_of, made_by, made_in, note, noted}
use Rattle.batch_book.specs.Replies.{is_logged}
use Rattle.batch_book.specs.Seats.{own}
use Rattle.batch_book.specs.Places.{are_placed, are_up_to, last_lists, last_place, lists_or, notes_of, notes_to}
use Rattle.batch_book.proofs.Noting.{own_append, own_made, others_made}

-- ---- no place is after one

pub up_to_more : (last more : ℕ) (ns : List Noted) (m : Noted) → are_up_to last ns ≡ true → last ≤ more → m.place ≤ more → are_up_to more (ns ++ m ∷ []) ≡ true
up_to_more last more [] m low le at = and_from _ true (le-leb m.place more at) refl
up_to_more last more (n ∷ ns) m low le at =
    let parts = and_parts (nat_le n.place last) (are_up_to last ns) low in
    and_from _ _ (le-leb n.place more (omega (arith, leb-true n.place last parts.0, le))) (up_to_more last more ns m parts.1 le at)

low_if : (last : ℕ) (ns : List Noted) (session : ℕ) (c : Call) (r : Reply) (b : Bool) → are_up_to last ns ≡ true
    → are_up_to last (ns ++ (if b then note session 0 c r ∷ [] else [])) ≡ true
low_if last ns session c r true low = up_to_more last last ns (note session 0 c r) low (omega arith) (omega arith)
low_if last ns session c r false low = ap (are_up_to last) (append-nil ns) ∙ low

-- where calls are noted without places
pub low_noted : (last : ℕ) (ns : List Noted) (session : ℕ) (c : Call) (r : Result Reply Unrecorded) → are_up_to last ns ≡ true
    → are_up_to last (ns ++ noted session 0 c r) ≡ true
low_noted last ns session c (Ok reply) low = low_if last ns session c reply (is_logged reply) low
low_noted last ns session c (Err lost) low = ap (are_up_to last) (append-nil ns) ∙ low

-- all that are up to a place that isn't after another
pub all_up_to : (last front : ℕ) (ns : List Noted) → are_up_to last ns ≡ true → last ≤ front → notes_to front ns ≡ ns
all_up_to last front [] low le = refl
all_up_to last front (n ∷ ns) low le =
    let parts = and_parts (nat_le n.place last) (are_up_to last ns) low in
    let one : nat_le n.place front ≡ true = le-leb n.place front (omega (arith, leb-true n.place last parts.0, le)) in
    ap (λ (b : Bool). cond b (n ∷ notes_to front ns) (notes_to front ns)) one ∙ ap (λ (l : List Noted). n ∷ l) (all_up_to last front ns parts.1 le)

-- ---- those of a session, up to a place

made_cons : (p : Noted → Bool) (n : Noted) (ns : List Noted) → made_in (filter p (n ∷ ns)) ≡ cond (p n) (made_by n) [] ++ made_in (filter p ns)
made_cons p n ns = by (p n)
  where
    by : (b : Bool) → made_in (cond b (n ∷ filter p ns) (filter p ns)) ≡ cond b (made_by n) [] ++ made_in (filter p ns)
    by true = refl
    by false = refl

pub own_up_to : (s front : ℕ) (ns : List Noted) → made_in (notes_to front (notes_of s ns)) ≡ own s (made_in (notes_to front ns))
own_up_to s front [] = refl
own_up_to s front (n ∷ ns) = by (nat_eq n.session s) refl (own_up_to s front ns)
  where
    low : Noted → Bool
    low x = nat_le x.place front

    N : List Noted
    N = notes_of s ns

    first : List Entry
    first = cond (low n) (made_by n) []

    rest : List Entry
    rest = own s (made_in (notes_to front ns))

    all : own s (made_in (notes_to front (n ∷ ns))) ≡ own s first ++ rest
    all = ap (own s) (made_cons low n ns) ∙ own_append s first (made_in (notes_to front ns))

    by : (b : Bool) → nat_eq n.session s ≡ b → made_in (notes_to front N) ≡ rest → made_in (notes_to front (notes_of s (n ∷ ns)))
        ≡ own s (made_in (notes_to front (n ∷ ns)))
    by true is further =
        ap (λ (b : Bool). made_in (notes_to front (cond b (n ∷ N) N))) is ∙ made_cons low n N ∙ ap (λ (l : List Entry). first ++ l) further
        ∙ sym (ap (λ (l : List Entry). l ++ rest) (mine (low n))) ∙ sym all
      where
        mine : (c : Bool) → own s (cond c (made_by n) []) ≡ cond c (made_by n) []
        mine true = own_made s n.session n.made is
        mine false = refl
    by false is further = ap (λ (b : Bool). made_in (notes_to front (cond b (n ∷ N) N))) is ∙ further
        ∙ sym (ap (λ (l : List Entry). l ++ rest) (others (low n))) ∙ sym all
      where
        others : (c : Bool) → own s (cond c (made_by n) []) ≡ []
        others true = others_made s n.session n.made is
        others false = refl

-- ---- places

-- a note of no entry, and one of an entry
none_by : (s : ℕ) (m : Option (Call × Reply)) → is_none m ≡ true → entry_of s m ≡ []
none_by s None is = refl
none_by s (Some c) is = absurd (true≢false (sym is))

one_by : (s : ℕ) (m : Option (Call × Reply)) → is_none m ≡ false → (e : Entry) × (entry_of s m ≡ e ∷ [])
one_by s None is = absurd (true≢false is)
one_by s (Some c) is = (_, refl)

abbrev placed_by : ℕ → Noted → List Noted → Bool → Bool
placed_by k n ns b = if b then are_placed k ns else (nat_eq n.place (k + 1) && are_placed (k + 1) ns)

-- where each has the next place, those up to a place are as many
pub placed_take : (k front : ℕ) (ns : List Noted) → are_placed k ns ≡ true → made_in (notes_to front ns) ≡ take (front - k) (made_in ns)
placed_take k front [] placed = sym (take-nil (front - k))
placed_take k front (n ∷ ns) placed = by (is_none n.made) refl (placed_take k front ns) (placed_take (k + 1) front ns)
  where
    low : Noted → Bool
    low x = nat_le x.place front

    Goal : Type 0
    Goal = made_in (notes_to front (n ∷ ns)) ≡ take (front - k) (made_by n ++ made_in ns)

    by : (b : Bool) → is_none n.made ≡ b → (are_placed k ns ≡ true → made_in (notes_to front ns) ≡ take (front - k) (made_in ns))
        → (are_placed (k + 1) ns ≡ true → made_in (notes_to front ns) ≡ take (front - (k + 1)) (made_in ns)) → Goal
    by true is same next =
        made_cons low n ns ∙ ap (λ (l : List Entry). l ++ made_in (notes_to front ns)) (none (low n))
        ∙ same (sym (ap (placed_by k n ns) is) ∙ placed)
        ∙ ap (λ (l : List Entry). take (front - k) (l ++ made_in ns)) (sym (none_by n.session n.made is))
      where
        none : (c : Bool) → cond c (made_by n) [] ≡ []
        none true = none_by n.session n.made is
        none false = refl
    by false is same next = two (low n) refl
      where
        parts : (nat_eq n.place (k + 1) ≡ true) × (are_placed (k + 1) ns ≡ true)
        parts = and_parts _ _ (sym (ap (placed_by k n ns) is) ∙ placed)

        place : n.place ≡ k + 1
        place = eqb-true n.place (k + 1) parts.0

        e : Entry
        e = (one_by n.session n.made is).0

        one : made_by n ≡ e ∷ []
        one = (one_by n.session n.made is).1

        further : made_in (notes_to front ns) ≡ take (front - (k + 1)) (made_in ns)
        further = next parts.1

        two : (c : Bool) → low n ≡ c → Goal
        two true below =
            let le : n.place ≤ front = leb-true n.place front below in
            let step : suc (front - (k + 1)) ≡ front - k = omega (arith, place, le) in
            made_cons low n ns ∙ ap (λ (b : Bool). cond b (made_by n) [] ++ made_in (notes_to front ns)) below
            ∙ ap (λ (l : List Entry). l ++ made_in (notes_to front ns)) one
            ∙ ap (λ (l : List Entry). e ∷ l) further ∙ ap (λ (m : ℕ). take m (e ∷ made_in ns)) step
            ∙ ap (λ (l : List Entry). take (front - k) (l ++ made_in ns)) (sym one)
        two false above =
            let lt : front < n.place = leb-false n.place front above in
            let zero_less : front - (k + 1) ≡ 0 = omega (arith, place, lt) in
            let zero_more : 0 ≡ front - k = omega (arith, place, lt) in
            made_cons low n ns ∙ ap (λ (b : Bool). cond b (made_by n) [] ++ made_in (notes_to front ns)) above ∙ further
            ∙ ap (λ (m : ℕ). take m (made_in ns)) zero_less ∙ ap (λ (m : ℕ). take m (made_by n ++ made_in ns)) zero_more

-- a call more with the next place
pub placed_more : (k : ℕ) (ns : List Noted) (session place : ℕ) (c : Call) (r : Reply) → are_placed k ns ≡ true → place ≡ k + length (made_in ns) + 1
    → are_placed k (ns ++ note session place c r ∷ []) ≡ true
placed_more k [] session place c r placed at = and_from _ true (eq-eqb place (k + 1) (omega (arith, at))) refl
placed_more k (n ∷ ns) session place c r placed at = by (is_none n.made) refl (placed_more k ns session place c r) (placed_more (k + 1) ns session place c r)
  where
    more : List Noted
    more = ns ++ note session place c r ∷ []

    by : (b : Bool) → is_none n.made ≡ b → (are_placed k ns ≡ true → place ≡ k + length (made_in ns) + 1 → are_placed k more ≡ true)
        → (are_placed (k + 1) ns ≡ true → place ≡ (k + 1) + length (made_in ns) + 1 → are_placed (k + 1) more ≡ true) → placed_by k n more (is_none n.made)
        ≡ true
    by true none same next =
        ap (placed_by k n more) none ∙ same (sym (ap (placed_by k n ns) none) ∙ placed)
        (at ∙ ap (λ (l : List Entry). k + length (l ++ made_in ns) + 1) (none_by n.session n.made none))
    by false some same next =
        let parts = and_parts _ _ (sym (ap (placed_by k n ns) some) ∙ placed) in
        let one = one_by n.session n.made some in
        let here : place ≡ k + length (one.0 ∷ made_in ns) + 1 = at ∙ ap (λ (l : List Entry). k + length (l ++ made_in ns) + 1) one.1 in
        ap (placed_by k n more) some ∙ and_from _ _ parts.0 (next parts.1 (omega (arith, here)))

-- a note of no entry more
pub placed_none : (k : ℕ) (ns : List Noted) (m : Noted) → is_none m.made ≡ true → are_placed k (ns ++ m ∷ []) ≡ are_placed k ns
placed_none k [] m is = ap (placed_by k m []) is
placed_none k (n ∷ ns) m is =
    ap (λ (b : Bool). if is_none n.made then b else (nat_eq n.place (k + 1) && are_placed (k + 1) (ns ++ m ∷ []))) (placed_none k ns m is)
    ∙ ap (λ (b : Bool). if is_none n.made then are_placed k ns else (nat_eq n.place (k + 1) && b)) (placed_none (k + 1) ns m is)

-- ---- what a side noted last

pub lists_push : (before : List Entry × List Entry) (ns : List Noted) (m : Noted) → last_lists before (ns ++ m ∷ []) ≡ lists_or (last_lists before ns) m.lists
lists_push before [] m = refl
lists_push before (n ∷ ns) m = lists_push (lists_or before n.lists) ns m

pub place_push : (before : ℕ) (ns : List Noted) (m : Noted) → last_place before (ns ++ m ∷ []) ≡ (if is_none m.lists then last_place before ns else m.place)
place_push before [] m = refl
place_push before (n ∷ ns) m = place_push (if is_none n.lists then before else n.place) ns m

pub notes_more : (s : ℕ) (h : List Noted) (m : Noted) → notes_of s (h ++ m ∷ []) ≡ notes_of s h ++ cond (nat_eq m.session s) (m ∷ []) []
notes_more s h m = filter-append (λ (n : Noted). nat_eq n.session s) h (m ∷ [])
