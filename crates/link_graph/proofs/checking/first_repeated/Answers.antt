use Rattle.std.proofs.Common.{◌<◌, length, drop, ◌+◌}
use Rattle.std.specs.List.{concat}
use Rattle.link_graph.specs.Schedules.{lists_of}
use Rattle.link_graph.proofs.Firsts.{known_in, whole_at, more_at}
use Rattle.link_graph.proofs.checking.first_repeated.Goals as goal

pub mark-requires : goal.mark-requires
mark-requires c = rw c.loop-setting.auto.marks (known_in (λ t. t < length c.args.marks.now) _ _ _ _ c.loop-setting-test.true c.setting-item.is
    c.as_slice.ensures.value c.requires.known)

pub returns-in-Some-clause-some : goal.returns-in-Some-clause-some
returns-in-Some-clause-some c =
    rw (whole_at _ _ _ _ c.loop-setting-test.true c.setting-item.is c.as_slice.ensures.value)
    (c.in-Some.ensures.some _ (concat (drop (c.loop-setting.setting-index + 1) (lists_of c.args.lists.now))) c.loop-setting.invariant.marks
    c.loop-setting.invariant.distinct)

pub loop-setting-preserved : goal.loop-setting-preserved
loop-setting-preserved c =
    let more = more_at c.args.lists.now c.loop-setting.setting-index c.setting-item.result c.as_slice.result.now c.loop-setting-test.true c.setting-item.is
    c.as_slice.ensures.value in
    record {
      marks = rw more (c.in_default.ensures.marks _ c.loop-setting.invariant.marks);
      distinct = rw more (c.in_default.ensures.none _ c.loop-setting.invariant.marks c.loop-setting.invariant.distinct);
    }
