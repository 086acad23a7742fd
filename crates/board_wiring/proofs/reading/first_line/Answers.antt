use Rattle.std.proofs.Common.{arith, append_assoc, ◌∙◌}
use Rattle.std.specs.Prelude.{codes}
use Rattle.batch.specs.Text.{number, line_feed}
use Rattle.batch.proofs.Lines.{ends_line}
use Rattle.board_wiring.proofs.Lines.{after_number}
use Rattle.board_wiring.proofs.reading.first_line.Goals as goal

pub returns-then-count-eq0-clause-none : goal.returns-then-count-eq0-clause-none
returns-then-count-eq0-clause-none c count rest headed =
    let spelled = headed.spelled ∙ append_assoc (codes "wiring ") (number count line_feed) rest in
    let one = after_number c.args.text.now (codes "wiring ") c.in_ok-count.count count line_feed c.in_ok-count.rest.now rest ends_line
    c.in_ok-count.ensures.some.0 (omega (arith, headed.few)) c.in_ok-count.ensures.some.1 spelled in
    omega (arith, one.0, headed.some, headed.few)
