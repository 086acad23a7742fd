use Rattle.std.proofs.Common.{◌≡◌, ◌++◌, ◌∙◌, sym, ap, List, ℕ, arith, rules}
use Rattle.std.specs.Prelude.{codes}
use Rattle.link_graph.proofs.LinkLines.{one_module}
use Rattle.link_graph.proofs.reading.link_module.Goals as goal

pub returns-then-module-ge-MAX_MODULES-clause-none : goal.returns-then-module-ge-MAX_MODULES-clause-none
returns-then-module-ge-MAX_MODULES-clause-none c m low same =
    let front : c.args.bytes.now ≡ codes " module " ++ c.in_ok-strip_prefix.field-0.now = search rules in
    let read = ap (λ (x : List ℕ). codes " module " ++ x) c.in_ok-module.ensures.some.1 in
    let one : c.in_ok-module.module ≡ m = one_module c.in_ok-module.module m c.in_ok-module.ensures.some.0 (omega arith) (sym read ∙ sym front ∙ same) in
    omega arith
