use Rattle.std.proofs.Common.{sym, ◌∷◌, ◌++◌, codes, drop, ◌+◌}
use Rattle.std.specs.Fmt.{decimal}
use Rattle.std.proofs.lemmas.List.{take_rest}
use Rattle.batch.specs.Text.{space}
use Rattle.batch.specs.ShapeText.{shape_text}
use Rattle.line_words.specs.HexWords.{hex8}
use Rattle.line_words.proofs.Numbers.{after_word}
use Rattle.book_record.proofs.Feeds.{no_byte}
use Rattle.book_record.proofs.Heads.{no_count, rack_spelled, shape_there, spaceless}
use Rattle.book_record.proofs.head.read_rack_line.Goals as goal

pub returns-in_err-rest-clause-none : goal.returns-in_err-rest-clause-none
returns-in_err-rest-clause-none c = rw c.from_residual.ensures (λ e sum n allowed word fits same. c.in_err-rest.ensures _ same)

pub returns-in_err-end-clause-none : goal.returns-in_err-end-clause-none
returns-in_err-end-clause-none c = rw c.from_residual-in_err-end.ensures (λ e sum n allowed word fits same.
    let after = hex8 sum ++ space ∷ decimal n in
    let rest = c.in_ok-rest.rest.now in
    no_byte space rest (sym c.in_err-end.ensures) (shape_text e) after (spaceless e)
    (after_word c.args.line.now (codes "record-2 ") rest (shape_text e ++ space ∷ after) c.in_ok-rest.ensures same))

pub returns-in-Err-clause-none : goal.returns-in-Err-clause-none
returns-in-Err-clause-none c = λ e sum n allowed word fits same.
    c.in-Err.ensures.bad e
    (record {
      spelled = (shape_there c.args.line.now c.in_ok-rest.rest.now c.in_ok-end.end e sum n c.in_ok-rest.ensures (sym c.in_ok-end.ensures) same).0;
      allowed = allowed;
    })

pub returns-in_err-sum-clause-none : goal.returns-in_err-sum-clause-none
returns-in_err-sum-clause-none c =
    let none = rw take_rest at c.in_err-sum.ensures.none in
    rw c.from_residual-in_err-sum.ensures (λ e sum n allowed word fits same.
    none sum (decimal n) word (shape_there c.args.line.now c.in_ok-rest.rest.now c.in_ok-end.end e sum n c.in_ok-rest.ensures (sym c.in_ok-end.ensures) same).1)

pub returns-in_err-names-clause-none : goal.returns-in_err-names-clause-none
returns-in_err-names-clause-none c =
    let read = rw take_rest at c.in_ok-sum.ensures.some in
    rw c.from_residual-in_err-names.ensures (λ e sum n allowed word fits same.
    c.in_err-names.ensures.none n fits (no_count c.in_ok-sum.sum sum n c.in_ok-sum.digits.now (drop (c.in_ok-end.end + 1) c.in_ok-rest.rest.now) read word
    (shape_there c.args.line.now c.in_ok-rest.rest.now c.in_ok-end.end e sum n c.in_ok-rest.ensures (sym c.in_ok-end.ensures) same).1))

pub returns-clause-some : goal.returns-clause-some
returns-clause-some c =
    let read = rw take_rest at c.in_ok-sum.ensures.some in
    rack_spelled c.args.line.now c.in_ok-rest.rest.now c.in_ok-sum.digits.now c.in_ok-end.end c.in-Ok.shape c.in_ok-sum.sum c.in_ok-names.names
    c.in_ok-rest.ensures (sym c.in_ok-end.ensures)
    c.in-Ok.ensures.shape.spelled read.1 c.in_ok-names.ensures.some.1
