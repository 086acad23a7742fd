use Rattle.std.proofs.Common.{◌≡◌, ◌++◌, ◌∙◌, sym, rules}
use Rattle.std.specs.Prelude.{codes}
use Rattle.std.proofs.lemmas.List.{append_cancel_left}
use Rattle.link_graph.proofs.LinkLines.{link_parts, one_end}
use Rattle.link_graph.proofs.reading.busiest_link.Goals as goal

pub returns-in_err-module-clause-none : goal.returns-in_err-module-clause-none
returns-in_err-module-clause-none c = rw c.from_residual-in_err-module.ensures (λ link low same.
    let front : c.args.line.now ≡ codes "busiest link " ++ c.in_ok-strip_prefix.field-0.now = search rules in
    let behind = append_cancel_left (codes "busiest link ") _ _ (sym front ∙ same ∙ link_parts link) in
    c.in_err-module.ensures.none link.«module» low (one_end c.in_ok-end.end link.end _ _ (sym c.in_ok-end.ensures.some ∙ behind)).1)
