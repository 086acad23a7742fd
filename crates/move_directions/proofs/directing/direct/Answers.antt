use Rattle.std.proofs.Common.{length}
use Rattle.euler_split.specs.Deals.{in_left}
use Rattle.move_directions.specs.Directions.{AreDirected}
use Rattle.move_directions.specs.Ends.{HalvesModules}
use Rattle.move_directions.proofs.Directed.{all_done, batch_is, halved}
use Rattle.move_directions.proofs.Bounds.{fewest}
use Rattle.move_directions.proofs.directing.direct.Goals as goal

pub of-requires : goal.of-requires
of-requires c =
    batch_is c.args.moves.now _ c.as_slice.ensures.list
    (all_done c.args.moves.now (in_left c.deref.result.now) _ (rw c.as_slice-2.ensures.value at c.in_ok-transfers.ensures))

pub returns-clause-halved : goal.returns-clause-halved
returns-clause-halved c =
    rw c.of.ensures
    (halved c.args.moves.now (in_left c.deref.result.now) _ (rw c.deref.ensures.value (rw c.as_slice.ensures.value at c.in_ok-halves.ensures.halves))
    (rw c.as_slice-2.ensures.value at c.in_ok-transfers.ensures))

pub returns-clause-fewest : goal.returns-clause-fewest
returns-clause-fewest c =
    let are : AreDirected c.args.moves.now (in_left c.deref.result.now) (length c.args.moves.now) c.in_ok-transfers.transfers.items =
    rw c.as_slice-2.ensures.value at c.in_ok-transfers.ensures in
    let halves : HalvesModules c.args.moves.now (in_left c.deref.result.now) =
    rw c.deref.ensures.value (rw c.as_slice.ensures.value at c.in_ok-halves.ensures.halves) in
    rw c.of.ensures (fewest c.args.moves.now _ (all_done c.args.moves.now (in_left c.deref.result.now) _ are)
    (halved c.args.moves.now (in_left c.deref.result.now) _ halves are))
