-- The text of a shape is read in one way only.
use Rattle.std.proofs.Common.{◌≡◌, ℕ, List, ◌++◌, refl, sym, ap, ◌∙◌, append_assoc, arith, subst, Result, Ok, Err}
use Rattle.std.specs.Prelude.{◌↔◌, IsOk, IfErr}
use Rattle.std.specs.Fmt.{decimal}
use Rattle.std.proofs.lemmas.Fmt.{decimal_injective}
use Rattle.std.proofs.lemmas.Bool.{false≢true}
use Rattle.batch.specs.ShapeView.{ShapeView, extent, IsShape, widest}
use Rattle.batch.specs.Text.{IsNumber, number}
use Rattle.batch.specs.declared.shape_reading.TheConstants.{SEPARATOR}
use Rattle.batch.specs.ShapeText.{shape_text, DenotesShape, IsBadShape}
use Rattle.batch.specs.declared.fault.ShapeFault.{ShapeFault}
use Rattle.batch.proofs.Lines.{Ends, one_number}

-- the numbers of a shape, each before what stands after it
pub record AreNumbers (e : ShapeView) : Type 0 where
  pub modules : IsNumber e.modules
  pub blocks : IsNumber e.blocks
  pub words : IsNumber e.words

pub ends_separator : Ends SEPARATOR
ends_separator = λ digit. omega arith

-- the text after the first separator
abbrev pub after_modules : ShapeView → List ℕ
after_modules e = number e.blocks SEPARATOR ++ decimal e.words

pub shape_parts : (e : ShapeView) → shape_text e ≡ number e.modules SEPARATOR ++ after_modules e
shape_parts e = simp append_assoc

pub of_shape : (e : ShapeView) → IsShape e → AreNumbers e
of_shape e s = record { modules = omega (arith, s.few_modules); blocks = omega (arith, s.few_blocks); words = omega (arith, s.few_words) }

same_extent : (a b : ShapeView) → a.modules ≡ b.modules → a.blocks ≡ b.blocks → a.words ≡ b.words → a ≡ b
same_extent a b m k w = ap (λ (x : ℕ). extent x a.blocks a.words) m ∙ ap (λ (x : ℕ). extent b.modules x a.words) k ∙ ap (λ (x : ℕ). extent b.modules b.blocks x)
    w

-- the parts that were read are those of each shape that the text spells
pub to_modules : (text : List ℕ) (m : ℕ) (rest : List ℕ) (b : ShapeView) → IsNumber m × (text ≡ number m SEPARATOR ++ rest) → AreNumbers b → text ≡ shape_text b
    → (m ≡ b.modules) × (rest ≡ after_modules b)
to_modules text m rest b read fits whole = one_number m b.modules SEPARATOR rest (after_modules b) read.0 fits.modules ends_separator
    (sym read.1 ∙ whole ∙ shape_parts b)

pub to_blocks : (text : List ℕ) (m k : ℕ) (rest more : List ℕ) (b : ShapeView) → IsNumber m × (text ≡ number m SEPARATOR ++ rest) → IsNumber k
    × (rest ≡ number k SEPARATOR ++ more) → AreNumbers b → text ≡ shape_text b → (m ≡ b.modules) × (k ≡ b.blocks) × (more ≡ decimal b.words)
to_blocks text m k rest more b read next fits whole =
    let p = to_modules text m rest b read fits whole in
    let q = one_number k b.blocks SEPARATOR more (decimal b.words) next.0 fits.blocks ends_separator (sym next.1 ∙ p.1) in
    (p.0, q.0, q.1)

pub spelled : (text : List ℕ) (m k w : ℕ) (rest more : List ℕ) → text ≡ number m SEPARATOR ++ rest → rest ≡ number k SEPARATOR ++ more → more ≡ decimal w → text
    ≡ shape_text (extent m k w)
spelled text m k w rest more a b c =
    a ∙ ap (λ (x : List ℕ). number m SEPARATOR ++ x) (b ∙ ap (λ (x : List ℕ). number k SEPARATOR ++ x) c) ∙ sym (shape_parts (extent m k w))

pub one_extent : (text : List ℕ) (a b : ShapeView) → AreNumbers a → AreNumbers b → text ≡ shape_text a → text ≡ shape_text b → a ≡ b
one_extent text a b fa fb ta tb =
    let p = to_blocks text a.modules a.blocks (after_modules a) (decimal a.words) b (fa.modules, ta ∙ shape_parts a) (fa.blocks, refl) fb tb in
    same_extent a b p.0 p.1 (decimal_injective a.words b.words (omega (arith, fa.words)) (omega (arith, fb.words)) p.2)

pub one_shape : (text : List ℕ) (a b : ShapeView) → DenotesShape text a → DenotesShape text b → a ≡ b
one_shape text a b da db = one_extent text a b (of_shape a da.allowed) (of_shape b db.allowed) da.spelled db.spelled

-- where the numbers that were read are refused, the text is that of no shape
pub no_shape : (text : List ℕ) (a : ShapeView) (r : Result ShapeView ShapeFault) → text ≡ shape_text a → AreNumbers a → IsOk r ↔ IsShape a
    → IfErr r (λ _. IsBadShape text)
no_shape text a (Ok s) read fits accepted = tt
no_shape text a (Err f) read fits accepted = λ b denotes.
    let same : b ≡ a = one_extent text b a (of_shape b denotes.allowed) fits denotes.spelled read in
    false≢true (accepted.1 (subst IsShape same denotes.allowed))

pub widest_shape : IsShape widest
widest_shape = record {
  some_module = omega arith;
  few_modules = omega arith;
  some_block = omega arith;
  few_blocks = omega arith;
  some_word = omega arith;
  few_words = omega arith;
}
