use Rattle.std.proofs.Common.{◌≡◌, ◌++◌, ap, ◌∙◌, List, ℕ, get_or, codes, rules, arith}
use Rattle.line_words.specs.HexWords.{hex2}
use Rattle.rack_answers.proofs.Switches.{more_bytes}
use Rattle.rack_answers.proofs.switching.push_bytes.Goals as goal

pub loop-byte-preserved : goal.loop-byte-preserved
loop-byte-preserved c =
    let byte = get_or c.args.bytes.now c.loop-byte.byte-index 0 in
    let text : c.push_spaced.new.text.items ≡ c.loop-byte.text.items ++ (codes " " ++ hex2 byte) = search rules in
    text ∙ ap (λ (x : List ℕ). x ++ (codes " " ++ hex2 byte)) c.loop-byte.invariant ∙ more_bytes c.args.text.now.items c.args.bytes.now c.loop-byte.byte-index
    (omega arith)
