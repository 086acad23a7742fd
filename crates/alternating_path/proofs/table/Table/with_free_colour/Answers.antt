use Rattle.std.proofs.Common.{◌+◌, List, Option, ℕ, length, ap, ◌∙◌, arith}
use Rattle.std.proofs.lemmas.List.{length-append}
use Rattle.alternating_path.specs.Colouring.{Colouring}
use Rattle.alternating_path.specs.Cells.{shown_colours}
use Rattle.alternating_path.proofs.MoreClasses.{more_cells}
use Rattle.alternating_path.proofs.Shown.{show, shown-is, cells_proper}
use Rattle.alternating_path.proofs.table.Table.with_free_colour.Goals as goal

pub invariant_of-result : goal.invariant_of-result
invariant_of-result c =
    let s = c.self.inside in
    rw c.in_ok-extend_from_slice.ensures.items (show _ _ _ _ (more_cells s.graph.now s.colours _ s.cells.items c.self.invariant))

pub returns-clause-more : goal.returns-clause-more
returns-clause-more c =
    let s = c.self.inside in
    rw (← c.self.view_is, c.in_ok-extend_from_slice.ensures.items)
    (ap (λ (f : List (Option ℕ)). let v : Colouring = record { batch = s.graph.now; colours = s.colours + 1; colour = f; inserted = s.inserted } in v)
    (shown-is _ _ _ _ (more_cells s.graph.now s.colours (shown_colours s.graph.now s.colours s.cells.items) s.cells.items c.self.invariant)))

pub returns-clause-proper : goal.returns-clause-proper
returns-clause-proper c =
    let s = c.self.inside in
    rw c.in_ok-extend_from_slice.ensures.items (cells_proper _ _ _ _ (show _ _ _ _ (more_cells s.graph.now s.colours _ s.cells.items c.self.invariant)))

pub returns-clause-before : goal.returns-clause-before
returns-clause-before c = rw (← c.self.view_is) (cells_proper _ _ _ _ c.self.invariant)

pub returns-clause-cost : goal.returns-clause-cost
returns-clause-cost c =
    let s = c.self.inside in
    rw (← c.self.view_is) (omega (
      arith,
      c.tick_many.ensures,
      c.len.ensures,
      ap length c.in_ok-extend_from_slice.ensures.items ∙ length-append s.cells.items _,
      c.self.invariant.rows,
    ))
