use Rattle.std.proofs.Common.{◌≡◌, ◌++◌, ap, ◌∙◌, List, ℕ, get_or, codes, rules, arith}
use Rattle.line_words.specs.HexWords.{hex8}
use Rattle.rack_answers.proofs.Reporting.{more_words}
use Rattle.rack_answers.proofs.report.push_words.Goals as goal

pub loop-word-preserved : goal.loop-word-preserved
loop-word-preserved c =
    let word = get_or c.args.words.now c.loop-word.word-index 0 in
    let text : c.push_spaced.new.text.items ≡ c.loop-word.text.items ++ (codes " " ++ hex8 word) = search rules in
    text ∙ ap (λ (x : List ℕ). x ++ (codes " " ++ hex8 word)) c.loop-word.invariant ∙ more_words c.args.text.now.items c.args.words.now c.loop-word.word-index
    (omega arith)
