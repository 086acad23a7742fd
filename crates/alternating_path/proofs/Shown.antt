-- The colouring that the cells show, and the cells after a transfer was put in or taken out.
use Rattle.std.proofs.Common.{◌≡◌, ◌≢◌, ℕ, zero, suc, ◌+◌, ◌*◌, ◌<◌, ◌⊎◌, inl, inr, List, length, get_or, set, replicate, Option, Some, None, MatchOption, Bool, true, false, is_some, refl, sym, ap}
use Rattle.std.proofs.Common.{◌∙◌, subst, arith, get_or-set_same, get_or-set_other, length-set, eq-eqb}
use Rattle.std.proofs.lemmas.List.{get_or_past, get_or-replicate, get_or_read, length-replicate, ext_get_or}
use Rattle.std.proofs.lemmas.List.FromFn.{length-map-range_with_len, get_or-map-range_with_len}
use Rattle.std.proofs.lemmas.Option.{same_Some, none-some}
use Rattle.std.proofs.lemmas.Bool.{cases_eq, cases_lt, eqb-true, false_from_ne_true, false≢true, true≢false}
use Rattle.batch.specs.Batches.{IsBatch}
use Rattle.batch.specs.declared.transfer.Transfer.{Transfer}
use Rattle.link_graph.specs.declared.limits.TheConstants.{LINKS}
use Rattle.link_graph.specs.declared.link.End.{End}
use Rattle.link_graph.specs.declared.link.End.TheVariants.{Zero, Three}
use Rattle.alternating_path.specs.Ends.{link_at}
use Rattle.alternating_path.specs.Colouring.{colour_at, IsProper, IsFree}
use Rattle.alternating_path.specs.Cells.{place_at, holder_at, is_transfer, last_below, shown_colour, shown_colours, AreCellsOf, ShowColouring}
use Rattle.alternating_path.proofs.Writes.{at_written, after_take, after_put, some_within, differs}
use Rattle.alternating_path.proofs.Links.{place_low, same_end, same_link, place-link, not_free, free_from, uses_at}

-- ---- the last number below n that passes

last_below_none : (n : ℕ) (p : ℕ → Bool) → ((i : ℕ) → i < n → p i ≡ false) → last_below n p ≡ None
last_below_none zero p none = refl
last_below_none (suc n) p none = rw (none n (omega arith)) (last_below_none n p (λ i h. none i (omega arith)))

last_below_is : (n m : ℕ) (p : ℕ → Bool) → m < n → p m ≡ true → ((i : ℕ) → i < n → p i ≡ true → i ≡ m) → last_below n p ≡ Some m
last_below_is zero m p h here only = absurd (omega arith)
last_below_is (suc n) m p h here only = elim (cases_eq n m) [
  | inl is ↦ let at_n : p n ≡ true = ap p is ∙ here in rw at_n (ap Some is)
  | inr other ↦
      let off : p n ≡ false = false_from_ne_true (p n) (λ yes'. other (only n (omega arith) yes')) in
      rw off (last_below_is n m p (omega arith) here (λ i h on. only i (omega arith) on))
]

is_transfer_yes : (t : ℕ) (o : Option ℕ) → is_transfer t o ≡ true → o ≡ Some t
is_transfer_yes t None h = absurd (false≢true h)
is_transfer_yes t (Some u) h = ap Some (eqb-true u t h)

-- ---- the cells determine the colouring

shown_at : (g : List Transfer) (k : ℕ) (f h : List (Option ℕ)) → AreCellsOf g k f h → (t : ℕ) → shown_colour g k h t ≡ colour_at f t
unfolding shown_colour
shown_at g k f h x t =
    let test : ℕ → Bool = λ c. is_transfer t (holder_at h c (place_at g t Zero)) in
    let found : (c : ℕ) → test c ≡ true → colour_at f t ≡ Some c =
    λ c yes'. (x.back c (place_at g t Zero) t (place_low g t Zero x.is_batch) (is_transfer_yes t _ yes')).0 in
    let go : (o : Option ℕ) → colour_at f t ≡ o → last_below k test ≡ o = λ o. elim o as (λ o. colour_at f t ≡ o → last_below k test ≡ o) [
      | None ↦ λ is. last_below_none k test (λ c c_in. false_from_ne_true (test c) (λ yes'. none-some c (sym is ∙ found c yes')))
      | Some c ↦ λ is.
          let held : holder_at h c (place_at g t Zero) ≡ Some t = x.held t c Zero is in
          let within : c * LINKS + place_at g t Zero < length h = some_within h _ t held in
          let rows = x.rows in
          let c_in : c < k = omega arith in
          last_below_is k c test c_in (rw held (eq-eqb t t refl)) (λ i i_in yes'. same_Some i c (sym (found i yes') ∙ is))
    ] in
    go (colour_at f t) refl

pub shown-is : (g : List Transfer) (k : ℕ) (f h : List (Option ℕ)) → AreCellsOf g k f h → shown_colours g k h ≡ f
unfolding shown_colours
shown-is g k f h x =
    ext_get_or None (shown_colours g k h) f (length-map-range_with_len (shown_colour g k h) 0 (length g) ∙ sym x.sized) (λ t within.
    let t_in : t < length g = omega (arith, within, length-map-range_with_len (shown_colour g k h) 0 (length g)) in
    get_or-map-range_with_len (shown_colour g k h) 0 (length g) t t None t_in (omega arith) ∙ shown_at g k f h x t)

pub show : (g : List Transfer) (k : ℕ) (f h : List (Option ℕ)) → AreCellsOf g k f h → ShowColouring g k h
show g k f h x = subst (λ (f' : List (Option ℕ)). AreCellsOf g k f' h) (sym (shown-is g k f h x)) x

-- ---- what they show is proper: two transfers in one cell are one

pub cells_proper : (g : List Transfer) (k : ℕ) (f h : List (Option ℕ)) → AreCellsOf g k f h → IsProper g k f
cells_proper g k f h x = record {
  sized = x.sized;
  below = λ t c at. let within : c * LINKS + place_at g t Zero < length h = some_within h _ t (x.held t c Zero at) in let r = x.rows in omega arith;
  apart = λ t u c other at_t at_u. record {
    none_common = λ link uses_t uses_u.
        let same : link_at g t link.end ≡ link_at g u link.end = sym (uses_at g t link uses_t) ∙ uses_at g u link uses_u in
        let a : holder_at h c (place_at g t link.end) ≡ Some t = x.held t c link.end at_t in
        let b : holder_at h c (place_at g t link.end) ≡ Some u = rw (place-link g t u link.end same) (x.held u c link.end at_u) in
        other (same_Some t u (sym a ∙ b));
  };
}

-- ---- writes

-- what two writes leave
at_both : (h : List (Option ℕ)) (i j n : ℕ) (v : Option ℕ) → i < length h → j < length h → (((n ≡ i) ⊎ (n ≡ j)) × (get_or (set (set h i v) j v) n None ≡ v))
    ⊎ ((n ≢ i) × (n ≢ j) × (get_or (set (set h i v) j v) n None ≡ get_or h n None))
at_both h i j n v i_in j_in = elim (at_written (set h i v) j n v (rw length-set j_in)) [
  | inl is ↦ inl (inr is.0, is.1)
  | inr other ↦ elim (at_written h i n v i_in) [
    | inl is ↦ inl (inl is.0, other.1 ∙ is.1)
    | inr out ↦ inr (out.0, other.0, other.1 ∙ out.1)
  ]
]

pub cell_in : (h : List (Option ℕ)) (k c l : ℕ) → length h ≡ k * LINKS → c < k → l < LINKS → c * LINKS + l < length h
cell_in h k c l rows c_in l_in = omega arith

same_cell : (c d l m : ℕ) → l < LINKS → m < LINKS → c * LINKS + l ≡ d * LINKS + m → (c ≡ d) × (l ≡ m)
same_cell c d l m l_in m_in e = (omega arith, omega arith)

at_one : (g : List Transfer) (t c : ℕ) (e : End) → c * LINKS + place_at g t e ≢ c * LINKS + place_at g t Zero → c * LINKS + place_at g t e ≢ c * LINKS +
    place_at g t Three → ⊥
at_one g t c Zero a b = a refl
at_one g t c Three a b = b refl

-- the cells after t was put in with colour c
abbrev pub put_cells : List Transfer → List (Option ℕ) → ℕ → ℕ → Option ℕ → List (Option ℕ)
put_cells g h t c v = set (set h (c * LINKS + place_at g t Zero) v) (c * LINKS + place_at g t Three) v

pub cells_after_put : (g : List Transfer) (k : ℕ) (f h : List (Option ℕ)) (t c : ℕ) → AreCellsOf g k f h → t < length g → c < k → colour_at f t ≡ None
    → IsFree g f (link_at g t Zero) c → IsFree g f (link_at g t Three) c → AreCellsOf g k (set f t (Some c)) (put_cells g h t c (Some t))
cells_after_put g k f h t c x t_in c_in out zero_free three_free =
    let low : (u : ℕ) (e : End) → place_at g u e < LINKS = λ u e. place_low g u e x.is_batch in
    let i_in : c * LINKS + place_at g t Zero < length h = cell_in h k c _ x.rows c_in (low t Zero) in
    let j_in : c * LINKS + place_at g t Three < length h = cell_in h k c _ x.rows c_in (low t Three) in
    let f_in : t < length f = rw x.sized t_in in
    let both = λ (n : ℕ). at_both h (c * LINKS + place_at g t Zero) (c * LINKS + place_at g t Three) n (Some t) i_in j_in in
    let free : (e : End) → IsFree g f (link_at g t e) c = λ e. elim e as (λ o. IsFree g f (link_at g t o) c) [ Zero ↦ zero_free | Three ↦ three_free ] in
    let now : List (Option ℕ) = put_cells g h t c (Some t) in
    let placed : (e : End) → holder_at now c (place_at g t e) ≡ Some t = λ e. elim (both (c * LINKS + place_at g t e)) [
      | inl there ↦ there.1
      | inr away ↦ absurd (at_one g t c e away.0 away.1)
    ] in
    let not_at : (u d : ℕ) (e o : End) → colour_at f u ≡ Some d → d * LINKS + place_at g u e ≢ c * LINKS + place_at g t o = λ u d e o at same.
    let s = same_cell d c _ _ (low u e) (low t o) same in
    let eo : e ≡ o = same_end g u t e o x.is_batch s.1 in
    let at_o : place_at g u o ≡ place_at g t o = ap (place_at g u) (sym eo) ∙ s.1 in
    not_free g f x.sized t u c o (free o) (at ∙ ap Some s.0) (same_link g u t o at_o) in
    record {
      is_batch = x.is_batch;
      sized = length-set f t (Some c) ∙ x.sized;
      rows = length-set _ _ _ ∙ (length-set _ _ _ ∙ x.rows);
      held = λ u d e at. elim (after_put f t u c d f_in at) [
        | inl is ↦ rw (is.0, ← is.1) (placed e)
        | inr old ↦ elim (both (d * LINKS + place_at g u e)) [
          | inl there ↦ absurd (elim there.0 [ inl i ↦ not_at u d e Zero old.1 i | inr j ↦ not_at u d e Three old.1 j ])
          | inr away ↦ away.2 ∙ x.held u d e old.1
        ]
      ];
      back = λ d l u l_in at. elim (both (d * LINKS + l)) [
        | inl there ↦
            let tu : t ≡ u = same_Some t u (sym there.1 ∙ at) in
            let at_end : (e : End) → d * LINKS + l ≡ c * LINKS + place_at g t e → (colour_at (set f t (Some c)) u ≡ Some d)
            × ((o : End) × (place_at g u o ≡ l)) = λ e place.
            let s = same_cell d c l _ l_in (low t e) place in (
              ap (colour_at (set f t (Some c))) (sym tu) ∙ (get_or-set_same f t (Some c) None f_in ∙ ap Some (sym s.0)),
              (e, ap (λ v. place_at g v e) (sym tu) ∙ sym s.1),
            ) in
            elim there.0 [ inl i ↦ at_end Zero i | inr j ↦ at_end Three j ]
        | inr away ↦
            let old = x.back d l u l_in (sym away.2 ∙ at) in
            let apart : u ≢ t = differs f u t d old.0 out in
            (get_or-set_other f t u (Some c) None apart ∙ old.0, old.1)
      ];
    }

pub cells_after_take : (g : List Transfer) (k : ℕ) (f h : List (Option ℕ)) (t c : ℕ) → AreCellsOf g k f h → colour_at f t ≡ Some c
    → AreCellsOf g k (set f t None) (put_cells g h t c None)
cells_after_take g k f h t c x at_t =
    let low : (u : ℕ) (e : End) → place_at g u e < LINKS = λ u e. place_low g u e x.is_batch in
    let i_in : c * LINKS + place_at g t Zero < length h = some_within h _ t (x.held t c Zero at_t) in
    let j_in : c * LINKS + place_at g t Three < length h = some_within h _ t (x.held t c Three at_t) in
    let f_in : t < length f = some_within f t c at_t in
    let both = λ (n : ℕ). at_both h (c * LINKS + place_at g t Zero) (c * LINKS + place_at g t Three) n None i_in j_in in
    let not_at : (u d : ℕ) (e o : End) → u ≢ t → colour_at f u ≡ Some d → d * LINKS + place_at g u e ≢ c * LINKS + place_at g t o = λ u d e o apart at same.
    let a : get_or h (d * LINKS + place_at g u e) None ≡ Some u = x.held u d e at in
    let b : get_or h (d * LINKS + place_at g u e) None ≡ Some t = rw same (x.held t c o at_t) in
    apart (same_Some u t (sym a ∙ b)) in
    record {
      is_batch = x.is_batch;
      sized = length-set f t None ∙ x.sized;
      rows = length-set _ _ _ ∙ (length-set _ _ _ ∙ x.rows);
      held = λ u d e at.
          let old = after_take f t u d f_in at in
          elim (both (d * LINKS + place_at g u e)) [
            | inl there ↦ absurd (elim there.0 [ inl i ↦ not_at u d e Zero old.0 old.1 i | inr j ↦ not_at u d e Three old.0 old.1 j ])
            | inr away ↦ away.2 ∙ x.held u d e old.1
          ];
      back = λ d l u l_in at. elim (both (d * LINKS + l)) [
        | inl there ↦ absurd (none-some u (sym there.1 ∙ at))
        | inr away ↦
            let old = x.back d l u l_in (sym away.2 ∙ at) in
            let apart : u ≢ t = λ same.
            let cd : d ≡ c = same_Some d c (sym old.0 ∙ (ap (colour_at f) same ∙ at_t)) in
            let lt : place_at g t old.1.0 ≡ l = ap (λ v. place_at g v old.1.0) (sym same) ∙ old.1.1 in
            at_one g t c old.1.0 (λ i. away.0 (rw (cd, ← lt) i)) (λ j. away.1 (rw (cd, ← lt) j)) in
            (get_or-set_other f t u None None apart ∙ old.0, old.1)
      ];
    }

pub nothing_at : (n i : ℕ) → colour_at (replicate n None) i ≡ None
nothing_at n i = elim (cases_lt i n) [
  | inl within ↦ get_or-replicate n i None None within
  | inr past ↦ get_or_past _ i None (rw length-replicate past)
]

pub empty_cells : (g : List Transfer) (k : ℕ) → IsBatch g → AreCellsOf g k (replicate (length g) None) (replicate (k * LINKS) None)
empty_cells g k batch = record {
  is_batch = batch;
  sized = length-replicate (length g) None;
  rows = length-replicate (k * LINKS) None;
  held = λ t c e at. absurd (none-some c (sym (nothing_at (length g) t) ∙ at));
  back = λ c l t l_in at. absurd (none-some t (sym (nothing_at (k * LINKS) (c * LINKS + l)) ∙ at));
}

-- what the cell of colour c at the link that t uses at e says
pub held_by : (g : List Transfer) (k : ℕ) (f h : List (Option ℕ)) (t c : ℕ) (e : End) (r : Option ℕ) → AreCellsOf g k f h → r ≡ holder_at h c (place_at g t e)
    → MatchOption r (IsFree g f (link_at g t e) c) (λ w. (colour_at f w ≡ Some c) × (link_at g w e ≡ link_at g t e))
held_by g k f h t c e None x is = free_from g f t c e (λ u at same. none-some u (is ∙ (ap (holder_at h c) (sym (place-link g u t e same)) ∙ x.held u c e at)))
held_by g k f h t c e (Some w) x is =
    let old = x.back c (place_at g t e) w (place_low g t e x.is_batch) (sym is) in
    let eo : old.1.0 ≡ e = same_end g w t old.1.0 e x.is_batch old.1.1 in
    let at_e : place_at g w e ≡ place_at g t e = ap (place_at g w) (sym eo) ∙ old.1.1 in
    (old.0, same_link g w t e at_e)

-- ---- reads

pub read_cell : (h : List (Option ℕ)) (k c place : ℕ) (r : Option ℕ) → length h ≡ k * LINKS → c < k → place < LINKS → r ≡ get_or h (c * LINKS + place) r → r
    ≡ holder_at h c place
read_cell h k c place r rows c_in place_in is = get_or_read h (c * LINKS + place) r (cell_in h k c place rows c_in place_in) is None

pub not_shown : (g : List Transfer) (k : ℕ) (f h : List (Option ℕ)) (t : ℕ) → AreCellsOf g k f h
    → ((c : ℕ) → c < k → holder_at h c (place_at g t Zero) ≢ Some t) → None ≡ colour_at f t
not_shown g k f h t x nowhere =
    let go : (o : Option ℕ) → colour_at f t ≡ o → None ≡ colour_at f t = λ o. elim o as (λ o. colour_at f t ≡ o → None ≡ colour_at f t) [
      | None ↦ λ is. sym is
      | Some c ↦ λ is.
          let held : holder_at h c (place_at g t Zero) ≡ Some t = x.held t c Zero is in
          let within : c * LINKS + place_at g t Zero < length h = some_within h _ t held in
          let rows = x.rows in
          let c_in : c < k = omega arith in
          absurd (nowhere c c_in held)
    ] in
    go (colour_at f t) refl

pub none_from : (o : Option ℕ) → is_some o ≡ false → o ≡ None
none_from None h = refl
none_from (Some w) h = absurd (true≢false h)
