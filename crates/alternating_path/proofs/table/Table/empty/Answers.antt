use Rattle.std.proofs.Common.{◌≡◌, None, length, replicate, ap}
use Rattle.alternating_path.specs.Colouring.{Colouring}
use Rattle.alternating_path.specs.Cells.{shown_colours}
use Rattle.alternating_path.proofs.Shown.{empty_cells, show, shown-is}
use Rattle.alternating_path.proofs.table.Table.empty.Goals as goal

pub invariant_of-result : goal.invariant_of-result
invariant_of-result c = rw c.requires (show _ _ _ _ (empty_cells c.args.graph.now c.args.colours c.len.ensures.batch))

pub returns : goal.returns
returns c =
    let shown : shown_colours c.args.graph.now c.args.colours c.args.cells.items ≡ replicate (length c.args.graph.now) None =
    rw c.requires (shown-is _ _ _ _ (empty_cells c.args.graph.now c.args.colours c.len.ensures.batch)) in
    ap (λ (f : _). let s : Colouring = record { batch = c.args.graph.now; colours = c.args.colours; colour = f; inserted = 0 } in s) shown
