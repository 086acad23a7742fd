use Rattle.std.proofs.Common.{◌≡◌, ℕ, length, subst, arith}
use Rattle.euler_split.specs.Deals.{in_left}
use Rattle.move_directions.specs.Directions.{AreDirected}
use Rattle.move_directions.proofs.Directed.{one_directed}
use Rattle.move_directions.proofs.directing.transfers.Goals as goal

pub loop-t-preserved : goal.loop-t-preserved
loop-t-preserved c =
    rw (c.in_ok-push.ensures.items, c.directed.ensures, c.unwrap_or.ensures)
    (one_directed _ _ _ _ _ c.loop-t-test.true (c.requires.halves.opposed _ c.loop-t-test.true) c.loop-t.invariant)

pub returns : goal.returns
returns c =
    let end : c.loop-t.t ≡ length c.args.moves.now = omega arith in
    subst (λ (n : ℕ). AreDirected c.args.moves.now (in_left c.args.halves.now) n c.loop-t.transfers.items) end c.loop-t.invariant
