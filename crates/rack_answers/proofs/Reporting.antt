-- The lines of a report, one more at a time.
use Rattle.std.proofs.Common.{◌≡◌, ℕ, ◌<◌, ◌+◌, List, ◌++◌, length, get_or, sym, ap, ◌∙◌, take, codes}
use Rattle.std.proofs.lemmas.List.{take_more, flat_map_more}
use Rattle.line_words.specs.HexWords.{hex8}
use Rattle.rack_answers.specs.Reports.{words_text}

-- one more word of a line
pub more_words : (before : List ℕ) (words : List ℕ) (i : ℕ) → i < length words → (before ++ words_text (take i words)) ++ (codes " " ++ hex8 (get_or words i 0))
    ≡ before ++ words_text (take (i + 1) words)
more_words before words i below =
    flat_map_more (λ word. codes " " ++ hex8 word) before (take i words) (get_or words i 0) ∙ ap (λ (x : List ℕ). before ++ words_text x)
    (sym (take_more words i 0 below))
