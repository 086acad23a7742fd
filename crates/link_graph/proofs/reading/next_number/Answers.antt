use Rattle.std.proofs.Common.{◌∙◌, ap, drop, sym, List, ℕ, Option, ◌∷◌, ◌≡◌, length, rules}
use Rattle.std.specs.Prelude.{position, ◌==◌, unwrap_or}
use Rattle.std.proofs.lemmas.List.{take_rest}
use Rattle.batch.specs.Text.{space}
use Rattle.link_graph.proofs.LineBreaks.{IsWordEnd, word_end}
use Rattle.link_graph.proofs.LinkLines.{cut_number, no_next_number}
use Rattle.link_graph.proofs.reading.next_number.Goals as goal

-- the place of the next space, from what the calls say
word : (digits : List ℕ) (place : Option ℕ) (end : ℕ) → place ≡ position (λ b. b == space) digits → end ≡ unwrap_or place (length digits)
    → IsWordEnd digits space end
word digits place end at is = rw (is, at) (word_end digits space)

pub returns-in_err-n-clause-none : goal.returns-in_err-n-clause-none
returns-in_err-n-clause-none c =
    let digits : List ℕ = c.in_ok-digits.digits.now in
    let front : c.args.words.now ≡ space ∷ digits = search rules in
    let w = word digits c.position_of.result c.unwrap_or-end.result c.position_of.ensures c.unwrap_or-end.ensures in
    rw c.from_residual-in_err-n.ensures (λ t ts fits same. no_next_number digits c.unwrap_or-end.result t ts w.lacks w.starts c.in_err-n.ensures.none fits
    (ap (drop 1) (sym front ∙ same)))

pub returns-clause-some : goal.returns-clause-some
returns-clause-some c =
    let digits : List ℕ = c.in_ok-digits.digits.now in
    let front : c.args.words.now ≡ space ∷ digits = search rules in
    let w = word digits c.position_of.result c.unwrap_or-end.result c.position_of.ensures c.unwrap_or-end.ensures in
    rw take_rest (
      c.in_ok-n.ensures.some.0,
      front
          ∙ ap (λ (x : List ℕ). space ∷ x) (cut_number digits c.unwrap_or-end.result c.in_ok-n.n c.in_ok-n.ensures.some.1),
      w.starts,
    )
