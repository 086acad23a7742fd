use Rattle.std.proofs.Common.{◌<◌}
use Rattle.link_graph.proofs.Firsts.{found_in, passed_in, whole_end}
use Rattle.link_graph.proofs.checking.first_unknown.Goals as goal

pub returns-in-Some-clause-some : goal.returns-in-Some-clause-some
returns-in-Some-clause-some c = found_in (λ t. t < c.args.count) _ _ _ _ _ c.loop-setting-test.true c.setting-item.is c.as_slice.ensures.value
    c.loop-setting.invariant c.in-Some.ensures.some

pub loop-setting-preserved : goal.loop-setting-preserved
loop-setting-preserved c = passed_in (λ t. t < c.args.count) _ _ _ _ c.loop-setting-test.true c.setting-item.is c.as_slice.ensures.value
    c.loop-setting.invariant c.in_default.ensures.none

pub returns-clause-none : goal.returns-clause-none
returns-clause-none c = rw (whole_end c.args.lists.now _ c.loop-setting-test.false) at c.loop-setting.invariant
