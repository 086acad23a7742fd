-- A text denotes one wiring or has one first line at fault, and not both.
use Rattle.std.proofs.Common.{◌≡◌, ◌<◌, ◌≤◌, ◌+◌, ℕ, List, [], ◌∷◌, ◌++◌, length, refl, sym, ap, subst, ◌∙◌, append_assoc, IsTrue, arith, inl, inr}
use Rattle.std.specs.Prelude.{codes}
use Rattle.std.proofs.lemmas.Bool.{cases_lt}
use Rattle.std.proofs.lemmas.List.{append-nil, length-append, nil_from_length}
use Rattle.batch.specs.Text.{number, line_feed}
use Rattle.batch.proofs.Lines.{ends_line}
use Rattle.board_wiring.specs.Faults.{AreModules, EndsAt, IsHeaded, StopsAt, at_head, at_module, at_end}
use Rattle.board_wiring.specs.Laws.{NeverBoth, OneBadLine, OneWiring}
use Rattle.board_wiring.specs.Modules.{are_wired}
use Rattle.board_wiring.specs.Text.{Denotes, line, lines_of}
use Rattle.board_wiring.specs.declared.fault.WiringFault.{WiringFault}
use Rattle.board_wiring.specs.declared.fault.WiringFault.TheVariants.{Line}
use Rattle.board_wiring.specs.declared.wired_module.WiredModule.{WiredModule}
use Rattle.board_wiring.proofs.Lines.{after_number, one_line}
use Rattle.board_wiring.proofs.Modules.{Ported, few_modules, ported, width_few, wired_front}

-- ---- lines that go on

-- the one list of lines goes on from the other
record GoesOn (ts us : List WiredModule) (r s : List ℕ) : Type 0 where
  more : List WiredModule
  list : us ≡ ts ++ more
  rest : r ≡ lines_of more ++ s

goes_on : (ts us : List WiredModule) (r s : List ℕ) → Ported ts → Ported us → length ts ≤ length us → lines_of ts ++ r ≡ lines_of us ++ s → GoesOn ts us r s
goes_on [] us r s pt pu le same = record { more = us; list = refl; rest = same }
goes_on (t ∷ ts) [] r s pt pu le same = absurd (omega arith)
goes_on (t ∷ ts) (u ∷ us) r s pt pu le same =
    let one = one_line t u (lines_of ts ++ r) (lines_of us ++ s) pt.0 pu.0
    (sym (append_assoc (line t) (lines_of ts) r) ∙ same ∙ append_assoc (line u) (lines_of us) s) in
    let rec = goes_on ts us r s pt.1 pu.1 (omega arith) one.1 in
    record {
      more = rec.more;
      list = ap (λ (x : WiredModule). x ∷ us) (sym one.0) ∙ ap (λ (xs : List WiredModule). t ∷ xs) rec.list;
      rest = rec.rest;
    }

-- two lists of lines of a text
record Both (ts us : List WiredModule) (r s : List ℕ) : Type 0 where
  ts_wired : IsTrue (are_wired ts)
  us_wired : IsTrue (are_wired us)
  same : lines_of ts ++ r ≡ lines_of us ++ s

going : (ts us : List WiredModule) (r s : List ℕ) → Both ts us r s → length ts ≤ length us → GoesOn ts us r s
going ts us r s b le = goes_on ts us r s (ported ts b.ts_wired) (ported us b.us_wired) le b.same

-- where more lines of a wiring follow, a list of lines doesn't end
next_stands : (ts more us : List WiredModule) (r s : List ℕ) → IsTrue (are_wired us) → us ≡ ts ++ more → r ≡ lines_of more ++ s → 0 < length more → EndsAt ts r
    → ⊥
next_stands ts [] us r s own list rest some ends = absurd (omega arith)
next_stands ts (v ∷ vs) us r s own list rest some ends =
    ends v (lines_of vs ++ s) (rest ∙ append_assoc (line v) (lines_of vs) s)
    (wired_front (ts ++ v ∷ []) vs (subst (λ (ms : List WiredModule). IsTrue (are_wired ms)) (list ∙ sym (append_assoc ts (v ∷ []) vs)) own))

early : (ts us : List WiredModule) (r s : List ℕ) → Both ts us r s → length ts < length us → EndsAt ts r → ⊥
early ts us r s b lt ends =
    let g = going ts us r s b (omega arith) in
    next_stands ts g.more us r s b.us_wired g.list g.rest (omega (arith, ap length g.list, length-append ts g.more)) ends

-- lists of one length are one, and so is what stands after them
same_rest : (ts us : List WiredModule) (r s : List ℕ) → Both ts us r s → length ts ≡ length us → (ts ≡ us) × (r ≡ s)
same_rest ts us r s b len =
    let g = going ts us r s b (omega (arith, len)) in
    let none : g.more ≡ [] = nil_from_length g.more (omega (arith, len, ap length g.list, length-append ts g.more)) in
    (sym (append-nil ts) ∙ ap (λ (x : List WiredModule). ts ++ x) (sym none) ∙ sym g.list, g.rest ∙ ap (λ (x : List WiredModule). lines_of x ++ s) none)

-- ---- the laws

one_head : (text : List ℕ) (n m : ℕ) (x y : List ℕ) → IsHeaded text n x → IsHeaded text m y → (n ≡ m) × (x ≡ y)
one_head text n m x y a b =
    after_number text (codes "wiring ") n m line_feed x y ends_line (omega (arith, a.few)) (omega (arith, b.few))
    (a.spelled ∙ append_assoc (codes "wiring ") (number n line_feed) x) (b.spelled ∙ append_assoc (codes "wiring ") (number m line_feed) y)

headed : (text : List ℕ) (ms : List WiredModule) → Denotes text ms → IsHeaded text (length ms) (lines_of ms)
headed text ms d = record { spelled = d.spelled; some = d.some; few = omega (arith, few_modules ms d.wired, width_few ms d.wired) }

whole : (text : List ℕ) (ms : List WiredModule) → Denotes text ms → AreModules (lines_of ms) (length ms) ms []
whole text ms d = record { counted = refl; wired = d.wired; spelled = sym (append-nil (lines_of ms)) }

-- the lines of two lists that stand after one head
both : (x y : List ℕ) (n m : ℕ) (ts us : List WiredModule) (r s : List ℕ) → x ≡ y → AreModules x n ts r → AreModules y m us s → Both ts us r s
both x y n m ts us r s e a b = record { ts_wired = a.wired; us_wired = b.wired; same = sym a.spelled ∙ e ∙ b.spelled }

pub one_wiring : OneWiring
one_wiring text a b da db =
    let h = one_head text _ _ _ _ (headed text a da) (headed text b db) in
    (same_rest a b [] [] (both _ _ _ _ a b [] [] h.1 (whole text a da) (whole text b db)) h.0).0

-- lines that stop don't go on as those of a wiring
no_stop : (x y : List ℕ) (n m : ℕ) (fault : WiringFault) (us : List WiredModule) (s : List ℕ) → x ≡ y → n ≡ m → StopsAt x n fault → AreModules y m us s → ⊥
no_stop x y n m (Line k) us s e f stops are = early stops.0 us stops.1 s (both x y _ m stops.0 us stops.1 s e stops.2 are)
    (omega (arith, stops.3, f, are.counted)) stops.4

pub apart : NeverBoth
apart text ms fault d (at_head none e) = none (length ms) (lines_of ms) (headed text ms d)
apart text ms fault d (at_module count lines h stops) =
    let one = one_head text _ _ _ _ h (headed text ms d) in
    no_stop _ _ _ _ fault ms [] one.1 one.0 stops (whole text ms d)
apart text ms fault d (at_end count lines modules rest h are more e) =
    let one = one_head text _ _ _ _ h (headed text ms d) in
    more (same_rest modules ms rest [] (both _ _ _ _ modules ms rest [] one.1 are (whole text ms d)) (are.counted ∙ one.0)).1

-- two lists of lines that stop, stop at one line
one_stop : (x y : List ℕ) (n m : ℕ) (f g : WiringFault) → x ≡ y → n ≡ m → StopsAt x n f → StopsAt y m g → f ≡ g
one_stop x y n m (Line j) (Line k) e c a b = elim (cases_lt (length a.0) (length b.0)) [
  | inl lt ↦ absurd (early a.0 b.0 a.1 b.1 (both x y _ _ a.0 b.0 a.1 b.1 e a.2 b.2) lt a.4)
  | inr le ↦ elim (cases_lt (length b.0) (length a.0)) [
    | inl lt ↦ absurd (early b.0 a.0 b.1 a.1 (both y x _ _ b.0 a.0 b.1 a.1 (sym e) b.2 a.2) lt b.4)
    | inr ge ↦ ap Line (omega (arith, a.5, b.5))
  ]
]

pub one_fault : OneBadLine
one_fault text f g (at_head none e) (at_head other d) = e ∙ sym d
one_fault text f g (at_head none e) (at_module count lines h stops) = absurd (none count lines h)
one_fault text f g (at_head none e) (at_end count lines modules rest h are more d) = absurd (none count lines h)
one_fault text f g (at_module count lines h stops) (at_head none e) = absurd (none count lines h)
one_fault text f g (at_end count lines modules rest h are more d) (at_head none e) = absurd (none count lines h)
one_fault text f g (at_module n x h stops) (at_module m y k others) =
    let one = one_head text _ _ _ _ h k in one_stop x y n m f g one.1 one.0 stops others
one_fault text f g (at_module n x h stops) (at_end m y modules rest k are more e) =
    let one = one_head text _ _ _ _ h k in absurd (no_stop x y n m f modules rest one.1 one.0 stops are)
one_fault text f g (at_end m y modules rest k are more e) (at_module n x h stops) =
    let one = one_head text _ _ _ _ h k in absurd (no_stop x y n m g modules rest one.1 one.0 stops are)
one_fault text f g (at_end n x modules rest h are more e) (at_end m y others left k too some d) =
    let one = one_head text _ _ _ _ h k in e ∙ ap (λ c. Line (c + 2)) one.0 ∙ sym d
