use Rattle.std.proofs.Common.{◌≡◌, ◌++◌, take}
use Rattle.rack_answers.specs.Reports.{words_text}
use Rattle.rack_answers.proofs.report.push_words.Given as goal

abbrev pub invariant-loop-word : goal.invariant-loop-word
invariant-loop-word l = l.text.items ≡ l.fn.text.items ++ words_text (take l.word-index l.words)
