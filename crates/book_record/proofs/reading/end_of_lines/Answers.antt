use Rattle.std.proofs.Common.{◌+◌, ◌-◌, ◌∙◌, ap, sym, drop, Some, arith}
use Rattle.std.proofs.lemmas.List.{drop-drop, length-drop, take_rest}
use Rattle.batch.specs.Text.{line_feed}
use Rattle.batch.proofs.Lines.{first_from_position}
use Rattle.book_record.specs.Reading.{after_end, after_lines}
use Rattle.book_record.proofs.Lines.{none_left, one_less}
use Rattle.book_record.proofs.reading.end_of_lines.Goals as goal

pub returns-in_err-at-clause-none : goal.returns-in_err-at-clause-none
returns-in_err-at-clause-none c =
    let rest = drop c.loop.end c.args.text.now in
    let none = rw take_rest at c.in_err-at.ensures in
    rw c.from_residual.ensures (c.loop.invariant.1 ∙ none_left c.args.count c.loop.counter rest c.loop-test.true (ap (after_end rest) (sym none)))

pub loop-preserved : goal.loop-preserved
loop-preserved c =
    let rest = drop c.loop.end c.args.text.now in
    let at = c.in_ok-at.at in
    let some = rw take_rest at c.in_ok-at.ensures in
    let first = first_from_position rest line_feed at (sym some) in (
      omega (arith, first.within, length-drop c.loop.end c.args.text.now, c.loop.invariant.0),
      c.loop.invariant.1 ∙ one_less c.args.count c.loop.counter rest c.loop-test.true
          ∙ ap (after_lines (c.args.count - (c.loop.counter + 1))) (ap (after_end rest) (sym some) ∙ ap Some (drop-drop (at + 1) c.loop.end c.args.text.now)),
    )
