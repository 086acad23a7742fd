-- A text lists things in one way, or has one first fault, and not both.
use Rattle.std.proofs.Common.{◌≡◌, ℕ, ◌<◌, ◌≤◌, List, [], ◌∷◌, ◌++◌, length, All, refl, sym, ap, subst, ◌∙◌, append_assoc, arith, inl, inr}
use Rattle.std.specs.List.{flat_map}
use Rattle.std.proofs.lemmas.Bool.{cases_lt}
use Rattle.std.proofs.lemmas.List.{append-nil, append_cancel_left, length-append, nil_from_length}
use Rattle.std.proofs.lemmas.List.Elements.{All-head, All-tail}
use Rattle.batch.specs.declared.fault.BatchFault.{BatchFault}
use Rattle.batch.specs.declared.fault.BatchFault.TheVariants.{Line, TooMany, NoModule, NoBlock, Count}
use Rattle.batch.specs.ShapeView.{ShapeView, IsShape}
use Rattle.batch.specs.Numbers.{IsNumber, number, line_feed}
use Rattle.batch.specs.Lists.{Form, head, line, HasModules, HasBlocks, IsWithin, Denotes}
use Rattle.batch.specs.ListFaults.{IsSpellable, BeginsWithLine, IsLineFault, IsHeadFault, IsGoodUpTo, IsFirstFault, at_head, at_line, at_end}
use Rattle.batch.proofs.Lines.{Tells, one_number, one_line, some_line, ends_line}

module _ {Thing : Type 0} (form : Form Thing) where
  pub one_head : (n m : ℕ) (x y : List ℕ) → IsNumber n → IsNumber m → head form n ++ x ≡ head form m ++ y → (n ≡ m) × (x ≡ y)
  one_head n m x y ln lm same =
      one_number n m line_feed x y ln lm ends_line
      (append_cancel_left form.heading _ _ (sym (append_assoc form.heading (number n line_feed) x) ∙ same ∙ append_assoc form.heading (number m line_feed)
      y))

  pub spellable : (shape : ShapeView) (valid : IsShape shape) (x : Thing) → IsWithin form shape x → IsSpellable form x
  spellable shape valid x w = (
    (omega (arith, w.0.0, valid.few_modules), omega (arith, w.1.0, valid.few_blocks)),
    (omega (arith, w.0.1, valid.few_modules), omega (arith, w.1.1, valid.few_blocks)),
  )

  -- the one list of more lines goes on from the other
  record GoesOn (shape : ShapeView) (xs ys : List Thing) (r s : List ℕ) : Type 0 where
    pub more : List Thing
    pub within : All (IsWithin form shape) more
    pub list : ys ≡ xs ++ more
    pub rest : r ≡ flat_map (line form) more ++ s

  -- one fault of the first line
  same_head : (text : List ℕ) (f g : BatchFault) → IsHeadFault form text f → IsHeadFault form text g → f ≡ g
  same_head text (Line m) (Line n) p q = ap Line (p.0 ∙ sym q.0)
  same_head text (Line m) TooMany p q = absurd (p.1 q.n q.rest q.headed)
  same_head text (Line m) _ p q = absurd q
  same_head text TooMany (Line m) p q = absurd (q.1 p.n p.rest p.headed)
  same_head text TooMany TooMany p q = refl
  same_head text TooMany _ p q = absurd q
  same_head text _ g p q = absurd p

module _ {Thing : Type 0} (form : Form Thing) (tells : Tells form) (shape : ShapeView) (valid : IsShape shape) where
  goes_on : (xs ys : List Thing) (r s : List ℕ) → All (IsWithin form shape) xs → All (IsWithin form shape) ys → length xs ≤ length ys → flat_map (line form) xs
      ++ r ≡ flat_map (line form) ys ++ s → GoesOn form shape xs ys r s
  goes_on [] ys r s wx wy le same = record { more = ys; within = wy; list = refl; rest = same }
  goes_on (x ∷ xs) [] r s wx wy le same = absurd (omega arith)
  goes_on (x ∷ xs) (y ∷ ys) r s wx wy le same =
      let one = one_line form tells x y (flat_map (line form) xs ++ r) (flat_map (line form) ys ++ s)
      (spellable form shape valid x (All-head (IsWithin form shape) x xs wx)) (spellable form shape valid y (All-head (IsWithin form shape) y ys wy))
      (sym (append_assoc (line form x) (flat_map (line form) xs) r) ∙ same ∙ append_assoc (line form y) (flat_map (line form) ys) s) in
      let rec = goes_on xs ys r s (All-tail (IsWithin form shape) x xs wx) (All-tail (IsWithin form shape) y ys wy) (omega arith) one.1 in
      record {
        more = rec.more;
        within = rec.within;
        list = ap (λ (z : Thing). z ∷ ys) (sym one.0) ∙ ap (λ (zs : List Thing). x ∷ zs) rec.list;
        rest =
            rec.rest;
      }

  -- as many lines, and what follows them
  pub same_lines : (xs ys : List Thing) (r s : List ℕ) → All (IsWithin form shape) xs → All (IsWithin form shape) ys → length xs ≡ length ys
      → flat_map (line form) xs ++ r ≡ flat_map (line form) ys ++ s → (xs ≡ ys) × (r ≡ s)
  same_lines xs ys r s wx wy len same =
      let g = goes_on xs ys r s wx wy (omega arith) same in
      let none : g.more ≡ [] = nil_from_length g.more (omega (arith, ap length g.list, length-append xs g.more)) in
      (sym (append-nil xs) ∙ ap (λ (zs : List Thing). xs ++ zs) (sym none) ∙ sym g.list, g.rest ∙ ap (λ (zs : List Thing). flat_map (line form) zs ++ s) none)

  -- what stands at the front, in one way
  begins_same : (rest : List ℕ) (x y : Thing) (a b : List ℕ) → BeginsWithLine form rest x a → BeginsWithLine form rest y b → x ≡ y
  begins_same rest x y a b p q = (one_line form tells x y a b p.0 q.0 (sym p.1 ∙ q.1)).0

  -- where a line stands as it should there is no fault
  refuted : (t : ℕ) (x : Thing) (after rest : List ℕ) (f : BatchFault) → IsWithin form shape x → rest ≡ line form x ++ after → IsLineFault form shape t rest f
      → ⊥
  refuted t x after rest Count w e fault = some_line form x after (sym e ∙ fault)
  refuted t x after rest (Line n) w e fault = fault.2 x after (spellable form shape valid x w, e)
  refuted t x after rest (NoModule n) w e fault =
      let f = fault.1 in
      f.missing (subst (HasModules form shape) (begins_same rest x f.thing after f.after (spellable form shape valid x w, e) f.begins) w.0)
  refuted t x after rest (NoBlock n) w e fault =
      let f = fault.1 in
      f.missing (subst (HasBlocks form shape) (begins_same rest x f.thing after f.after (spellable form shape valid x w, e) f.begins) w.1)
  refuted t x after rest _ w e fault = fault

  refuted_in : (t : ℕ) (more : List Thing) (after rest : List ℕ) (f : BatchFault) → All (IsWithin form shape) more → 0 < length more → rest
      ≡ flat_map (line form) more ++ after → IsLineFault form shape t rest f → ⊥
  refuted_in t [] after rest f w some e fault = absurd (omega arith)
  refuted_in t (x ∷ xs) after rest f w some e fault = refuted t x (flat_map (line form) xs ++ after) rest f (All-head (IsWithin form shape) x xs w)
      (e ∙ append_assoc (line form x) (flat_map (line form) xs) after) fault

  -- one fault of a line
  same_line : (t : ℕ) (rest : List ℕ) (f g : BatchFault) → IsLineFault form shape t rest f → IsLineFault form shape t rest g → f ≡ g
  same_line t rest Count Count p q = refl
  same_line t rest Count (Line n) p q = absurd (q.1 p)
  same_line t rest Count (NoModule n) p q = absurd (some_line form q.1.thing q.1.after (sym q.1.begins.1 ∙ p))
  same_line t rest Count (NoBlock n) p q = absurd (some_line form q.1.thing q.1.after (sym q.1.begins.1 ∙ p))
  same_line t rest Count _ p q = absurd q
  same_line t rest (Line m) Count p q = absurd (p.1 q)
  same_line t rest (Line m) (Line n) p q = ap Line (p.0 ∙ sym q.0)
  same_line t rest (Line m) (NoModule n) p q = absurd (p.2 q.1.thing q.1.after q.1.begins)
  same_line t rest (Line m) (NoBlock n) p q = absurd (p.2 q.1.thing q.1.after q.1.begins)
  same_line t rest (Line m) _ p q = absurd q
  same_line t rest (NoModule m) Count p q = absurd (some_line form p.1.thing p.1.after (sym p.1.begins.1 ∙ q))
  same_line t rest (NoModule m) (Line n) p q = absurd (q.2 p.1.thing p.1.after p.1.begins)
  same_line t rest (NoModule m) (NoModule n) p q = ap NoModule (p.0 ∙ sym q.0)
  same_line t rest (NoModule m) (NoBlock n) p q =
      absurd (p.1.missing (subst (HasModules form shape) (begins_same rest q.1.thing p.1.thing q.1.after p.1.after q.1.begins p.1.begins) q.1.modules))
  same_line t rest (NoModule m) _ p q = absurd q
  same_line t rest (NoBlock m) Count p q = absurd (some_line form p.1.thing p.1.after (sym p.1.begins.1 ∙ q))
  same_line t rest (NoBlock m) (Line n) p q = absurd (q.2 p.1.thing p.1.after p.1.begins)
  same_line t rest (NoBlock m) (NoModule n) p q =
      absurd (q.1.missing (subst (HasModules form shape) (begins_same rest p.1.thing q.1.thing p.1.after q.1.after p.1.begins q.1.begins) p.1.modules))
  same_line t rest (NoBlock m) (NoBlock n) p q = ap NoBlock (p.0 ∙ sym q.0)
  same_line t rest (NoBlock m) _ p q = absurd q
  same_line t rest _ g p q = absurd p

  -- ---- two readings of a text, each good up to some place

  same_behind : {text : List ℕ} {n m : ℕ} {xs ys : List Thing} {r s : List ℕ} → IsGoodUpTo form shape text n xs r → IsGoodUpTo form shape text m ys s → (n ≡ m)
      × (flat_map (line form) xs ++ r ≡ flat_map (line form) ys ++ s)
  same_behind {n = n} {m = m} p q = one_head form n m _ _ (omega (arith, p.allowed)) (omega (arith, q.allowed)) (sym p.spelled ∙ q.spelled)

  same_rest : {text : List ℕ} {n m : ℕ} {xs ys : List Thing} {r s : List ℕ} → IsGoodUpTo form shape text n xs r → IsGoodUpTo form shape text m ys s → length xs
      ≡ length ys → (xs ≡ ys) × (r ≡ s)
  same_rest p q len = same_lines _ _ _ _ p.within q.within len (same_behind p q).1

  -- no fault in the place of a line that is as it should be
  earlier : {text : List ℕ} {n m : ℕ} {xs ys : List Thing} {r s : List ℕ} (f : BatchFault) → IsGoodUpTo form shape text n xs r
      → IsGoodUpTo form shape text m ys s → length xs < length ys → IsLineFault form shape (length xs) r f → ⊥
  earlier {xs = xs} {ys = ys} {r = r} {s = s} f p q less fault =
      let g = goes_on xs ys r s p.within q.within (omega arith) (same_behind p q).1 in
      refuted_in (length xs) g.more s r f g.within (omega (arith, ap length g.list, length-append xs g.more)) g.rest fault

  -- nor where all lines are
  complete : {text : List ℕ} {n m : ℕ} {xs ys : List Thing} {r s : List ℕ} (f : BatchFault) → IsGoodUpTo form shape text n xs r
      → IsGoodUpTo form shape text m ys s → length xs < n → length ys ≡ m → IsLineFault form shape (length xs) r f → ⊥
  complete f p q less all fault = earlier f p q (omega (arith, (same_behind p q).0)) fault

  head_refuted : {text : List ℕ} {n : ℕ} {xs : List Thing} {r : List ℕ} (f : BatchFault) → IsGoodUpTo form shape text n xs r → IsHeadFault form text f → ⊥
  head_refuted {n = n} (Line k) p fault = fault.1 n _ (omega (arith, p.allowed), p.spelled)
  head_refuted {n = n} TooMany p fault =
      omega (
        arith,
        p.allowed,
        fault.too_many,
        (one_head form n fault.n _ fault.rest (omega (arith, p.allowed)) fault.headed.0 (sym p.spelled ∙ fault.headed.1)).0,
      )
  head_refuted _ p fault = fault

  two_lines : {text : List ℕ} {n m : ℕ} {xs ys : List Thing} {r s : List ℕ} (f g : BatchFault) → IsGoodUpTo form shape text n xs r
      → IsGoodUpTo form shape text m ys s → IsLineFault form shape (length xs) r f → IsLineFault form shape (length ys) s g → f ≡ g
  two_lines {xs = xs} {ys = ys} {r = r} {s = s} f g p q one other =
      elim (cases_lt (length xs) (length ys)) [
        | inl less ↦ absurd (earlier f p q less one)
        | inr more ↦ elim (cases_lt (length ys) (length xs)) [
          | inl less ↦ absurd (earlier g q p less other)
          | inr le ↦
              let at : length xs ≡ length ys = omega arith in
              same_line (length ys) s f g (subst (λ (k : ℕ). IsLineFault form shape k s f)
              at (subst (λ (b : List ℕ). IsLineFault form shape (length xs) b f) (same_rest p q at).1 one)) other
        ]
      ]

  -- ---- the laws

  listed : (text : List ℕ) (xs : List Thing) → Denotes form shape text xs → IsGoodUpTo form shape text (length xs) xs []
  listed text xs d = record {
    allowed = d.few;
    at_most = omega arith;
    within = d.within;
    spelled = d.spelled ∙ ap (λ (y : List ℕ). head form (length xs) ++ y)
        (sym (append-nil (flat_map (line form) xs)));
  }

  pub one_list : (text : List ℕ) (a b : List Thing) → Denotes form shape text a → Denotes form shape text b → a ≡ b
  one_list text a b da db = (same_rest (listed text a da) (listed text b db) (same_behind (listed text a da) (listed text b db)).0).0

  pub apart : (text : List ℕ) (a : List Thing) (f : BatchFault) → Denotes form shape text a → IsFirstFault form shape text f → ⊥
  apart text a f d (at_head fault) = head_refuted f (listed text a d) fault
  apart text a f d (at_line n xs rest good early fault) = complete f good (listed text a d) early refl fault
  apart text a f d (at_end n xs rest good all more is) = more (same_rest good (listed text a d) (all ∙ (same_behind good (listed text a d)).0)).1

  pub one_fault : (text : List ℕ) (f g : BatchFault) → IsFirstFault form shape text f → IsFirstFault form shape text g → f ≡ g
  one_fault text f g (at_head p) (at_head q) = same_head form text f g p q
  one_fault text f g (at_head p) (at_line n xs rest good early q) = absurd (head_refuted f good p)
  one_fault text f g (at_head p) (at_end n xs rest good all more is) = absurd (head_refuted f good p)
  one_fault text f g (at_line n xs rest good early p) (at_head q) = absurd (head_refuted g good q)
  one_fault text f g (at_line n xs rest good early p) (at_line m ys rest' good' early' q) = two_lines f g good good' p q
  one_fault text f g (at_line n xs rest good early p) (at_end m ys rest' good' all more is) = absurd (complete f good good' early all p)
  one_fault text f g (at_end n xs rest good all more is) (at_head q) = absurd (head_refuted g good q)
  one_fault text f g (at_end n xs rest good all more is) (at_line m ys rest' good' early q) = absurd (complete g good' good early all q)
  one_fault text f g (at_end n xs rest good all more is) (at_end m ys rest' good' all' more' is') = is ∙ sym is'
