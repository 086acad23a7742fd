use Rattle.std.proofs.Common.{arith}
use Rattle.link_graph.specs.Schedules.{lists_of}
use Rattle.steady_schedule.proofs.Read.{numbered_settings}
use Rattle.steady_schedule.proofs.numbering.settings_by.Goals as goal

pub read_all-requires-clause-below : goal.read_all-requires-clause-below
read_all-requires-clause-below c u v i u_in v_in lt =
    let f = c.fill_best.ensures in
    f.numbered.below u v i (record { zero_in = u_in; three_in = v_in; done = omega (arith, f.done u v u_in v_in); there = lt })

pub returns : goal.returns
returns c = numbered_settings c.args.graph.now c.args.places.now.totals.now c.fill_best.new.slots c.args.settings (lists_of c.in_ok-lists.lists.items)
    c.requires.batch c.requires.counted c.in_ok-lists.ensures c.fill_best.ensures
