use Rattle.std.proofs.Common.{sym, ap, ◌∙◌, ◌++◌, List, ℕ, take}
use Rattle.std.proofs.lemmas.List.{take_rest, take-append-drop}
use Rattle.batch.specs.Text.{line_feed}
use Rattle.link_graph.proofs.LineBreaks.{lacks_from_none, lacks_before, parts_at}
use Rattle.link_graph.proofs.reading.next_line.Goals as goal

pub returns-in_err-at-clause-none : goal.returns-in_err-at-clause-none
returns-in_err-at-clause-none c = rw c.from_residual.ensures (lacks_from_none c.args.text.now line_feed (sym c.in_err-at.ensures))

pub returns-clause-some : goal.returns-clause-some
returns-clause-some c =
    let at = sym c.in_ok-at.ensures in
    rw take_rest (
      lacks_before c.args.text.now line_feed c.in_ok-at.at at,
      sym (take-append-drop c.in_ok-at.at c.args.text.now)
          ∙ ap (λ (x : List ℕ). take c.in_ok-at.at c.args.text.now ++ x) (parts_at c.args.text.now line_feed c.in_ok-at.at at),
    )
