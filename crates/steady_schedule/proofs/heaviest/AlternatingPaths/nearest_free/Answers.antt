use Rattle.steady_schedule.proofs.Matchings.{has_low}
use Rattle.steady_schedule.proofs.heaviest.AlternatingPaths.nearest_free.Goals as goal

pub looks-preserved : goal.looks-preserved
looks-preserved c =
    let m = c.args.matching.now in
    has_low m.zero c.in-Some.next c.in_ok-three.three m.matched.sized ((m.matched.each_other c.in-Some.next c.in_ok-three.three).1 c.in-Some.is)
