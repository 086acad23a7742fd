use Rattle.std.proofs.Common.{◌≡◌, true, get_or, rules}
use Rattle.link_graph.specs.Masks.{has_pair}
use Rattle.steady_schedule.proofs.Searching.{both_bits}
use Rattle.steady_schedule.proofs.matching.join_one.Goals as goal

pub join-requires-clause-y_free : goal.join-requires-clause-y_free
join-requires-clause-y_free c = c.requires.free c.lowest-three.result (both_bits (get_or c.args.near.now c.args.zero 0) c.args.free.now c.lowest-three.result
    c.lowest-three.ensures.has).1

pub without_module-requires-clause-has : goal.without_module-requires-clause-has
without_module-requires-clause-has c = (both_bits (get_or c.args.near.now c.args.zero 0) c.args.free.now c.lowest-three.result c.lowest-three.ensures.has).1

pub returns-clause-joins : goal.returns-clause-joins
returns-clause-joins c =
    let near : has_pair c.args.near.now c.args.zero c.lowest-three.result ≡ true =
    (both_bits (get_or c.args.near.now c.args.zero 0) c.args.free.now c.lowest-three.result c.lowest-three.ensures.has).0 in
    search rules
