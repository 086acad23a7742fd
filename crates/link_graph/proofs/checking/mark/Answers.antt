use Rattle.link_graph.proofs.Firsts.{repeated_at, marking_more}
use Rattle.link_graph.proofs.checking.mark.Goals as goal

pub returns-then-marks-t-clause-some : goal.returns-then-marks-t-clause-some
returns-then-marks-t-clause-some c = repeated_at _ _ _ _ 0 c.loop-t-test.true (c.requires _ _ c.loop-t-test.true) c.if-marks-t.true c.loop-t.invariant

pub loop-t-preserved : goal.loop-t-preserved
loop-t-preserved c = marking_more _ _ _ _ 0 c.loop-t-test.true (c.requires _ _ c.loop-t-test.true) c.if-marks-t.false c.loop-t.invariant
