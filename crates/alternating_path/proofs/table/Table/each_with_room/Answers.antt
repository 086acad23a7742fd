use Rattle.std.proofs.Common.{◌≡◌, take, arith}
use Rattle.std.proofs.lemmas.List.{take_all}
use Rattle.link_graph.specs.declared.link.End.TheVariants.{Zero, Three}
use Rattle.alternating_path.proofs.Singles.{none_each, each_out, each_free, next_each}
use Rattle.alternating_path.proofs.table.Table.each_with_room.Goals as goal

pub loop-colour-init : goal.loop-colour-init
loop-colour-init c = rw c.empty-table.ensures (none_each _ _, omega (arith, c.tick_many.ensures, c.saturating_mul-filled.ensures))

pub put_in-requires-clause-known : goal.put_in-requires-clause-known
put_in-requires-clause-known c = rw c.loop-colour.invariant.0.held.batch (c.requires.known c.loop-colour.colour 0 c.loop-colour-test.true)

pub put_in-requires-clause-in_range : goal.put_in-requires-clause-in_range
put_in-requires-clause-in_range c = rw c.loop-colour.invariant.0.held.colours c.loop-colour-test.true

pub put_in-requires-clause-out : goal.put_in-requires-clause-out
put_in-requires-clause-out c = each_out c.args.graph.now c.args.members.now c.loop-colour.colour c.loop-colour.table c.requires.known c.requires.distinct
    c.loop-colour-test.true c.loop-colour.invariant.0

pub put_in-requires-clause-zero_free : goal.put_in-requires-clause-zero_free
put_in-requires-clause-zero_free c = each_free c.args.graph.now c.args.members.now c.loop-colour.colour c.loop-colour.table c.requires.known c.requires.distinct
    c.loop-colour-test.true c.loop-colour.invariant.0 Zero

pub put_in-requires-clause-three_free : goal.put_in-requires-clause-three_free
put_in-requires-clause-three_free c = each_free c.args.graph.now c.args.members.now c.loop-colour.colour c.loop-colour.table c.requires.known
    c.requires.distinct c.loop-colour-test.true c.loop-colour.invariant.0 Three

pub loop-colour-preserved : goal.loop-colour-preserved
loop-colour-preserved c = (
  next_each c.args.graph.now c.args.members.now c.loop-colour.colour c.loop-colour.table c.requires.known c.requires.distinct
      c.loop-colour-test.true c.loop-colour.invariant.0 c.put_in.new.self c.put_in.ensures.written c.put_in.ensures.proper,
  omega (arith, c.loop-colour.invariant.1, c.tick.ensures),
)

pub returns-clause-batch : goal.returns-clause-batch
returns-clause-batch c = c.loop-colour.invariant.0.held.batch

pub returns-clause-colours : goal.returns-clause-colours
returns-clause-colours c = c.loop-colour.invariant.0.held.colours

pub returns-clause-placed : goal.returns-clause-placed
returns-clause-placed c =
    let all : take c.loop-colour.colour c.args.members.now ≡ c.args.members.now = take_all _ _ (omega arith) in
    rw all at c.loop-colour.invariant.0.held.placed

pub returns-clause-inserted : goal.returns-clause-inserted
returns-clause-inserted c = c.loop-colour.invariant.0.held.inserted

pub returns-clause-proper : goal.returns-clause-proper
returns-clause-proper c = c.loop-colour.invariant.0.held.proper
