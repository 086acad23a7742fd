use Rattle.std.proofs.Common.{◌≡◌, sym, ◌∙◌, ap, ◌++◌, ◌∷◌, List, ℕ, rules}
use Rattle.std.proofs.lemmas.Bool.{false≢true}
use Rattle.std.proofs.lemmas.Bool.Decides.{Decides-eqb}
use Rattle.std.proofs.lemmas.Slice.Eq.{slice_eq-Decides}
use Rattle.batch.specs.Text.{line_feed}
use Rattle.line_words.specs.HexWords.{hex8}
use Rattle.book_record.specs.Sums.{sum_mark}
use Rattle.book_record.proofs.Fronts.{other_sum, summed_form}
use Rattle.book_record.proofs.record_prefix.read_prefix.Goals as goal

pub returns-then-eq : goal.returns-then-eq
returns-then-eq c =
    let lines = c.in-Some.lines.now in
    let rest = c.in-Some.rest.now in
    let n = c.args.number in
    let sum = c.sum_at.ensures in
    let due : c.in-Some.sum.now ≡ hex8 c.sum_at.result = search rules in
    let front = c.in-Some.ensures.some in
    record {
      none = front.0;
      front = front.2 ∙ ap (λ (l : List ℕ). lines ++ sum_mark ∷ (l ++ line_feed ∷ rest)) (due ∙ ap hex8 sum) ∙ sym (summed_form n lines rest);
    }

pub returns : goal.returns
returns c =
    let found = c.in-Some.sum.now in
    let front = c.in-Some.ensures.some in
    let sum = c.sum_at.ensures in
    let due : c.as_slice.result.now ≡ hex8 c.sum_at.result = search rules in
    let same = slice_eq-Decides Decides-eqb found c.as_slice.result.now c.eq.result c.eq.ensures in
    other_sum c.args.number c.args.text.now c.in-Some.lines.now found c.in-Some.rest.now front.0 front.1 front.2
    (λ e. false≢true (sym c.if-eq.false ∙ same.1 (e ∙ ap hex8 (sym sum) ∙ sym due)))

pub returns-in_default : goal.returns-in_default
returns-in_default c = c.without_sum.ensures c.args.number
