use Rattle.std.proofs.Common.{◌≡◌, ◌∙◌, ◌++◌, ◌-◌, ℕ, ap, length, rules, sym, take}
use Rattle.book_record.specs.Sums.{sum_at, sum_line}
use Rattle.book_record.proofs.Heads.{head_read, head_summed, no_names, no_summed}
use Rattle.book_record.proofs.head.whole_head.Goals as goal

pub returns-in_err-after-clause-none : goal.returns-in_err-after-clause-none
returns-in_err-after-clause-none c =
    rw c.from_residual.ensures (no_names c.args.text.now c.args.rest.now c.args.shape c.args.sum c.args.names c.requires.shape c.requires.sum c.requires.names
    c.requires.line c.in_err-after.ensures.none)

pub returns-in_err-body-clause-none : goal.returns-in_err-body-clause-none
returns-in_err-body-clause-none c =
    let text = c.args.text.now in
    let after = c.in_ok-after.after.now in
    let all = c.in_ok-after.ensures.some in
    let read = head_read text after c.args.rest.now c.args.shape c.args.sum c.args.names all.0 c.requires.line all.1 all.2 in
    let sum : c.sum_at.result ≡ sum_at 0 (take (length text - length after) text) = c.sum_at.ensures ∙ search rules in
    rw c.from_residual-in_err-body.ensures (no_summed text after c.args.shape c.args.sum c.args.names c.requires.shape c.requires.sum read
    (λ x e. c.in_err-body.ensures x (e ∙ ap (λ (s : ℕ). sum_line s ++ x) (sym sum))))

pub returns-clause-some : goal.returns-clause-some
returns-clause-some c =
    let text = c.args.text.now in
    let after = c.in_ok-after.after.now in
    let all = c.in_ok-after.ensures.some in
    let read = head_read text after c.args.rest.now c.args.shape c.args.sum c.args.names all.0 c.requires.line all.1 all.2 in
    let sum : c.sum_at.result ≡ sum_at 0 (take (length text - length after) text) = c.sum_at.ensures ∙ search rules in
    let follow = c.in_ok-body.ensures ∙ ap (λ (s : ℕ). sum_line s ++ c.in_ok-body.body.now) sum in
    (c.requires.shape, c.requires.sum, (read.names, read.are, head_summed text after c.in_ok-body.body.now c.args.shape c.args.sum c.args.names read follow))
