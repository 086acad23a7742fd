use Rattle.std.proofs.Common.{◌≡◌, ◌*◌, length, refl, arith}
use Rattle.euler_split.proofs.Partners.{none_paired, all_paired}
use Rattle.move_directions.specs.Ends.{module_of_end}
use Rattle.move_directions.proofs.EndPairs.{source_paired, both_paired}
use Rattle.move_directions.proofs.ends.pair_at_modules.Goals as goal

pub loop-t-init : goal.loop-t-init
loop-t-init c = none_paired (module_of_end c.args.moves.now) (2 * length c.args.moves.now) _ c.args.partners.now refl c.requires.sized c.requires.empty

pub wait_or_pair-requires-clause-earlier : goal.wait_or_pair-requires-clause-earlier
wait_or_pair-requires-clause-earlier c w waits = (c.loop-t.invariant.waits _ w waits).0

pub wait_or_pair-requires-in-loop-t-clause-earlier : goal.wait_or_pair-requires-in-loop-t-clause-earlier
wait_or_pair-requires-in-loop-t-clause-earlier c w waits =
    let paired = source_paired c.args.moves.now c.requires.list c.loop-t.t _ c.loop-t-test.true c.loop-t.waiting c.loop-t.partners c.loop-t.invariant _ _
    c.wait_or_pair.ensures in
    (paired.waits _ w waits).0

pub loop-t-preserved : goal.loop-t-preserved
loop-t-preserved c = both_paired c.args.moves.now c.requires.list c.loop-t.t _ c.loop-t-test.true c.loop-t.waiting c.loop-t.partners c.loop-t.invariant _ _
    c.wait_or_pair.ensures _ _ c.wait_or_pair-in-loop-t.ensures

pub returns : goal.returns
returns c = let end : c.loop-t.t ≡ length c.args.moves.now = omega arith in all_paired _ _ _ _ (rw end at c.loop-t.invariant)
