use Rattle.std.proofs.Common.{arith}
use Rattle.schedule_picture.proofs.Fewest.{most_used, busiest_of}
use Rattle.schedule_picture.proofs.verdict.verdict_on.Goals as goal

pub least-requires-clause-most : goal.least-requires-clause-most
least-requires-clause-most c link =
    let busiest = c.busiest-busiest.result in
    omega (
      arith,
      most_used c.in_ok-graph.graph busiest link
          (busiest_of c.in_ok-graph.graph busiest c.busiest-busiest.ensures.none c.busiest-busiest.ensures.most),
      c.uses-fewest.ensures,
    )
