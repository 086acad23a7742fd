use Rattle.std.proofs.Common.{sym}
use Rattle.std.proofs.lemmas.List.{take_rest}
use Rattle.book_record.specs.Heads.{rack_words}
use Rattle.book_record.proofs.Feeds.{line_there}
use Rattle.book_record.proofs.Heads.{no_end, no_first}
use Rattle.book_record.proofs.head.read_head.Goals as goal

pub returns-in_err-end-clause-none : goal.returns-in_err-end-clause-none
returns-in_err-end-clause-none c = rw c.from_residual.ensures (no_end c.args.text.now (sym c.in_err-end.ensures))

pub returns-in_err-shape-clause-none : goal.returns-in_err-shape-clause-none
returns-in_err-shape-clause-none c = rw c.from_residual-in_err-shape.ensures
    (no_first c.args.text.now c.in_ok-end.end (sym c.in_ok-end.ensures) c.in_err-shape.ensures.none)

pub whole_head-requires-clause-line : goal.whole_head-requires-clause-line
whole_head-requires-clause-line c =
    let line = rack_words c.in_ok-shape.shape c.in_ok-shape.sum c.in_ok-shape.names in
    rw take_rest (line_there c.args.text.now line c.in_ok-end.end (sym c.in_ok-end.ensures) c.in_ok-shape.ensures.some)
