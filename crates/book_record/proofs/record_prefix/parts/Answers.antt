use Rattle.std.proofs.Common.{sym, ◌∙◌, ap, ◌++◌, ◌∷◌, ◌+◌, List, ℕ, take, drop}
use Rattle.std.proofs.lemmas.List.{take_rest}
use Rattle.book_record.specs.Sums.{sum_mark}
use Rattle.batch.specs.Text.{line_feed}
use Rattle.book_record.proofs.Feeds.{byte_at, first_at, no_byte}
use Rattle.book_record.proofs.record_prefix.parts.Goals as goal

pub returns-in_err-at-clause-none : goal.returns-in_err-at-clause-none
returns-in_err-at-clause-none c =
    rw c.from_residual.ensures (λ body line rest none fed is. no_byte sum_mark c.args.text.now (sym c.in_err-at.ensures) body _ none is)

pub returns-in_err-end-clause-none : goal.returns-in_err-end-clause-none
returns-in_err-end-clause-none c =
    let none = rw take_rest at c.in_err-end.ensures in
    let here = byte_at sum_mark c.args.text.now c.in_ok-at.at (sym c.in_ok-at.ensures) in
    rw c.from_residual-in_err-end.ensures
    (λ body line rest p q same. no_byte line_feed _ (sym none) line rest q (first_at sum_mark _ body _ _ here.1 p (sym here.2 ∙ same)).1)

pub returns-clause-some : goal.returns-clause-some
returns-clause-some c =
    let text = c.args.text.now in
    let at = c.in_ok-at.at in
    let some = rw take_rest at c.in_ok-end.ensures in
    let here = byte_at sum_mark text at (sym c.in_ok-at.ensures) in
    let line = byte_at line_feed (drop (at + 1) text) c.in_ok-end.end (sym some) in
    rw take_rest (rw take_rest (here.1, line.1, here.2 ∙ ap (λ (l : List ℕ). take at text ++ sum_mark ∷ l) line.2))
