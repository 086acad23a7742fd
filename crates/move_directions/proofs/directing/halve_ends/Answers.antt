use Rattle.move_directions.proofs.EndPairs.{halves_are, joined_pairs}
use Rattle.move_directions.proofs.directing.halve_ends.Goals as goal

pub halve-requires-clause-three_pairs : goal.halve-requires-clause-three_pairs
halve-requires-clause-three_pairs c = joined_pairs _ _ c.join.ensures

pub returns : goal.returns
returns c = halves_are c.args.moves.now c.pair_at_modules.new.partners c.join.new.partners c.halve.new.halves c.pair_at_modules.ensures c.join.ensures
    c.halve.ensures
