use Rattle.std.proofs.Common.{codes, sym, ◌∙◌, ap, ◌++◌, List, ℕ}
use Rattle.std.proofs.lemmas.List.{append_cancel_left, take_rest}
use Rattle.book_record.proofs.Heads.{is_name, no_name}
use Rattle.batch.specs.Text.{line_feed}
use Rattle.book_record.proofs.Feeds.{byte_at, no_byte}
use Rattle.book_record.proofs.head.client_and_rest.Goals as goal

pub returns-in_err-end-clause-none : goal.returns-in_err-end-clause-none
returns-in_err-end-clause-none c =
    rw c.from_residual-in_err-end.ensures (λ name left so is. no_byte line_feed c.in_ok-rest.rest.now (sym c.in_err-end.ensures) name left so.1
    (append_cancel_left (codes "client ") _ _ (sym c.in_ok-rest.ensures ∙ is)))

pub returns-then-end-eq0-clause-none : goal.returns-then-end-eq0-clause-none
returns-then-end-eq0-clause-none c = no_name c.args.text.now c.in_ok-rest.rest.now c.in_ok-end.end c.in_ok-rest.ensures (sym c.in_ok-end.ensures)
    c.if-end-eq0.true

pub returns-clause-some : goal.returns-clause-some
returns-clause-some c =
    let after = c.in_ok-rest.rest.now in
    let end = c.in_ok-end.end in
    let line = byte_at line_feed after end (sym c.in_ok-end.ensures) in
    rw take_rest (is_name after end (sym c.in_ok-end.ensures) c.if-end-eq0.false, c.in_ok-rest.ensures ∙ ap (λ (l : List ℕ). codes "client " ++ l) line.2)
