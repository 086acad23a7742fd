use Rattle.std.proofs.Common.{arith}
use Rattle.std.proofs.lemmas.Grind.{common_steps}
use Rattle.std.proofs.lemmas.List.Elements.{filter_map-append}
use Rattle.alternating_path.proofs.rows.class_of.Goals as goal

pub loop-holder-preserved : goal.loop-holder-preserved
loop-holder-preserved c = (grind (arith, common_steps, filter_map-append, c.loop-holder.invariant.0), omega (arith, c.loop-holder.invariant.1, c.tick.ensures))
