use Rattle.std.proofs.Common.{◌<◌, arith}
use Rattle.std.proofs.lemmas.List.Elements.{All-more}
use Rattle.link_graph.proofs.Firsts.{without_at, all_of}
use Rattle.link_graph.proofs.checking.unknown_in.Goals as goal

pub returns-then-t-count-clause-some : goal.returns-then-t-count-clause-some
returns-then-t-count-clause-some c = without_at (λ t. t < c.args.count) _ _ 0 c.loop-t-test.true c.loop-t.invariant (λ below. omega arith)

pub loop-t-preserved : goal.loop-t-preserved
loop-t-preserved c = All-more (λ t. t < c.args.count) _ _ 0 c.loop-t-test.true c.loop-t.invariant (omega arith)

pub returns-clause-none : goal.returns-clause-none
returns-clause-none c = all_of (λ t. t < c.args.count) _ _ c.loop-t-test.false c.loop-t.invariant
