use Rattle.std.proofs.Common.{◌≡◌, ◌++◌, length, refl, ap, ◌∙◌, arith, rules}
use Rattle.std.proofs.lemmas.List.{length-append}
use Rattle.alternating_path.proofs.Joined.{joined_show, joined_classes}
use Rattle.alternating_path.proofs.Shown.{cells_proper}
use Rattle.alternating_path.proofs.table.Table.join_in_steps.Goals as goal

pub invariant_of-result : goal.invariant_of-result
invariant_of-result c =
    let l = c.left.inside in
    let r = c.right.inside in
    let requires = rw (← c.left.view_is, ← c.right.view_is) at c.requires in
    let cells : c.extend_from_slice.new.self.items ≡ l.cells.items ++ r.cells.items = c.in_ok-extend_from_slice.ensures.items
    ∙ ap (λ more. l.cells.items ++ more) c.as_slice.ensures.value in
    joined_show l.graph.now r.graph.now l.colours r.colours l.cells.items r.cells.items _ c.left.invariant c.right.invariant requires.one_graph requires.apart
    cells

pub returns-clause-joined : goal.returns-clause-joined
returns-clause-joined c =
    let l = c.left.inside in
    let r = c.right.inside in
    let requires = rw (← c.left.view_is, ← c.right.view_is) at c.requires in
    let cells : c.extend_from_slice.new.self.items ≡ l.cells.items ++ r.cells.items = c.in_ok-extend_from_slice.ensures.items
    ∙ ap (λ more. l.cells.items ++ more) c.as_slice.ensures.value in
    let classes = joined_classes l.graph.now r.graph.now l.colours r.colours l.cells.items r.cells.items _ c.left.invariant c.right.invariant requires.one_graph
    requires.apart cells in
    rw (← c.left.view_is, ← c.right.view_is) (record { batch = refl; colours = refl; classes = classes; inserted = search rules })

pub returns-clause-proper : goal.returns-clause-proper
returns-clause-proper c =
    let l = c.left.inside in
    let r = c.right.inside in
    let requires = rw (← c.left.view_is, ← c.right.view_is) at c.requires in
    let cells : c.extend_from_slice.new.self.items ≡ l.cells.items ++ r.cells.items = c.in_ok-extend_from_slice.ensures.items
    ∙ ap (λ more. l.cells.items ++ more) c.as_slice.ensures.value in
    cells_proper _ _ _ _ (joined_show l.graph.now r.graph.now l.colours r.colours l.cells.items r.cells.items _ c.left.invariant c.right.invariant
    requires.one_graph requires.apart cells)

pub returns-clause-cost : goal.returns-clause-cost
returns-clause-cost c =
    let l = c.left.inside in
    let r = c.right.inside in
    let cells : c.extend_from_slice.new.self.items ≡ l.cells.items ++ r.cells.items = c.in_ok-extend_from_slice.ensures.items
    ∙ ap (λ more. l.cells.items ++ more) c.as_slice.ensures.value in
    rw (← c.left.view_is, ← c.right.view_is) (omega (
      arith,
      c.tick_many.ensures,
      c.len.ensures,
      ap length cells ∙ length-append l.cells.items r.cells.items,
      c.left.invariant.rows,
      c.right.invariant.rows,
    ))
