use Rattle.line_words.proofs.Numbers.{after_word}
use Rattle.board_wiring.proofs.reading.number_after_words.Goals as goal

pub returns-in_err-n-clause-none : goal.returns-in_err-n-clause-none
returns-in_err-n-clause-none c =
    rw c.from_residual-in_err-n.ensures
    (λ n rest lt same. c.in_err-n.ensures.none n rest lt (after_word c.args.bytes.now c.args.words.now _ _ c.in_ok-rest_after.ensures same))
