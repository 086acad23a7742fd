use Rattle.board_wiring.proofs.Lines.{not_ended, not_placed}
use Rattle.board_wiring.proofs.reading.place_after.Goals as goal

pub returns-in_err-rest_after-clause-none : goal.returns-in_err-rest_after-clause-none
returns-in_err-rest_after-clause-none c = rw c.from_residual-in_err-rest_after.ensures (λ link rest port same.
    not_ended c.args.bytes.now c.args.words.now c.in_ok-bytes.bytes.now c.in-Some.rest.now link c.args.end rest c.in_ok-bytes.ensures c.in-Some.ensures
    c.in_err-rest_after.ensures same)

pub returns-in_err-link-clause-none : goal.returns-in_err-link-clause-none
returns-in_err-link-clause-none c = rw c.from_residual-in_err-link.ensures (λ link rest port same.
    not_placed c.args.bytes.now c.args.words.now c.in_ok-bytes.bytes.now link c.args.end rest c.in_ok-bytes.ensures c.in_default.ensures
    c.in_err-link.ensures.none port same)
