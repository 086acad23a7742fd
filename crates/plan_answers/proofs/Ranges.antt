-- The text of a range of settings is read in one way only.
use Rattle.std.proofs.Common.{◌≡◌, ℕ, List, ◌++◌, ◌∷◌, refl, sym, ap, ◌∙◌, append_assoc, arith}
use Rattle.std.specs.Fmt.{decimal}
use Rattle.std.proofs.lemmas.Fmt.{decimal_injective}
use Rattle.batch.specs.Text.{IsNumber, number}
use Rattle.batch.proofs.Lines.{Ends, one_number}
use Rattle.link_graph.proofs.OneFault.{tail_same}
use Rattle.plan_answers.specs.declared.setting_range.SettingRange.{SettingRange}
use Rattle.plan_answers.specs.Drawings.{range_text, DenotesRange}

abbrev pub point : ℕ
point = 46

pub ends_point : Ends point
ends_point = λ digit. omega arith

pub range_parts : (range : SettingRange) → range_text range ≡ number range.first point ++ (point ∷ decimal range.last)
range_parts range = simp append_assoc

-- the parts that were read are those of each range that the text spells
pub to_first : (text : List ℕ) (n : ℕ) (rest : List ℕ) (b : SettingRange) → IsNumber n × (text ≡ number n point ++ rest) → DenotesRange text b → (n ≡ b.first)
    × (rest ≡ point ∷ decimal b.last)
to_first text n rest b read d = one_number n b.first point rest (point ∷ decimal b.last) read.0 d.first ends_point (sym read.1 ∙ d.spelled ∙ range_parts b)

pub to_more : (text : List ℕ) (n : ℕ) (rest more : List ℕ) (b : SettingRange) → IsNumber n × (text ≡ number n point ++ rest) → rest ≡ point ∷ more
    → DenotesRange text b → (n ≡ b.first) × (more ≡ decimal b.last)
to_more text n rest more b read next d =
    let p = to_first text n rest b read d in
    (p.0, tail_same point point more (decimal b.last) (sym next ∙ p.1))

pub to_last : (text : List ℕ) (n m : ℕ) (rest more : List ℕ) (b : SettingRange) → IsNumber n × (text ≡ number n point ++ rest) → rest ≡ point ∷ more
    → IsNumber m × (more ≡ decimal m) → DenotesRange text b → (n ≡ b.first) × (m ≡ b.last)
to_last text n m rest more b read next last d =
    let p = to_more text n rest more b read next d in
    (p.0, decimal_injective m b.last (omega (arith, last.0)) (omega (arith, d.last)) (sym last.1 ∙ p.1))

pub spelled : (text : List ℕ) (n m : ℕ) (rest more : List ℕ) → text ≡ number n point ++ rest → rest ≡ point ∷ more → more ≡ decimal m → text
    ≡ range_text (record { first = n; last = m })
spelled text n m rest more a b c =
    a ∙ ap (λ (x : List ℕ). number n point ++ x) (b ∙ ap (λ (x : List ℕ). point ∷ x) c) ∙ sym (range_parts (record { first = n; last = m }))

pub one_range : (text : List ℕ) (a b : SettingRange) → DenotesRange text a → DenotesRange text b → a ≡ b
one_range text a b da db =
    let p = to_last text a.first a.last (point ∷ decimal a.last) (decimal a.last) b (da.first, da.spelled ∙ range_parts a) refl (da.last, refl) db in
    let made : ℕ → ℕ → SettingRange = λ f l. record { first = f; last = l } in
    ap (λ (f : ℕ). made f a.last) p.0 ∙ ap (made b.first) p.1
