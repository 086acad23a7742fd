use Rattle.std.proofs.Common.{◌≢◌, ℕ, ◌++◌}
use Rattle.std.specs.Fmt.{decimal}
use Rattle.batch.specs.Text.{IsNumber}
use Rattle.line_words.proofs.Numbers.{after_word, none_as}
use Rattle.line_words.proofs.reading.number_after.Goals as goal

pub returns-clause-none : goal.returns-clause-none
returns-clause-none c =
    let line = c.args.line.now in
    let word = c.args.word.now in
    let rest = c.in_ok-digits.digits.now in
    let none : ((n : ℕ) → IsNumber n → rest ≢ decimal n) → (n : ℕ) → IsNumber n → line ≢ word ++ decimal n =
    λ other n fits e. other n fits (after_word line word rest (decimal n) c.in_ok-digits.ensures e) in
    none_as _ _ _ none c.number_from_digits.ensures.none
