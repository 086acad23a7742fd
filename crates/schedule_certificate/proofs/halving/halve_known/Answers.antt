use Rattle.std.proofs.Common.{◌-◌, take, drop, arith}
use Rattle.euler_split.proofs.InTurn.{halves_less}
use Rattle.schedule_certificate.proofs.Parts.{halves_of_split}
use Rattle.schedule_certificate.proofs.halving.halve_known.Goals as goal

pub split_evenly-requires-clause-even : goal.split_evenly-requires-clause-even
split_evenly-requires-clause-even c u v i lt = c.requires.times u v i (omega (arith, lt, c.if-times-eq0.false))

pub returns-then-times-eq0-clause-halves : goal.returns-then-times-eq0-clause-halves
returns-then-times-eq0-clause-halves c = halves_of_split _ _ _ _ c.split_in_place.ensures.split

pub returns-clause-halves : goal.returns-clause-halves
returns-clause-halves c = halves_of_split _ _ _ _ c.split_evenly.ensures.split

pub returns-clause-left_times : goal.returns-clause-left_times
returns-clause-left_times c =
    (halves_less c.args.graph.now c.args.part.now (take c.split_evenly.result c.split_evenly.new.members)
    (drop c.split_evenly.result c.split_evenly.new.members) (c.args.times - 1) c.split_evenly.ensures.split.parts c.split_evenly.ensures.pairs
    (λ u v i lt. c.requires.times u v i (omega (arith, lt, c.if-times-eq0.false)))).0

pub returns-clause-right_times : goal.returns-clause-right_times
returns-clause-right_times c =
    (halves_less c.args.graph.now c.args.part.now (take c.split_evenly.result c.split_evenly.new.members)
    (drop c.split_evenly.result c.split_evenly.new.members) (c.args.times - 1) c.split_evenly.ensures.split.parts c.split_evenly.ensures.pairs
    (λ u v i lt. c.requires.times u v i (omega (arith, lt, c.if-times-eq0.false)))).1
