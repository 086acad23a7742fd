use Rattle.std.proofs.Common.{◌∙◌, sym, arith}
use Rattle.std.proofs.lemmas.Bool.{false≢true}
use Rattle.std.proofs.lemmas.List.{length-set}
use Rattle.batch.specs.declared.limits.TheConstants.{MAX_MODULES}
use Rattle.link_graph.proofs.Masks.{no_pair}
use Rattle.steady_schedule.proofs.Reaches.{within_more}
use Rattle.steady_schedule.proofs.choosing.just_pairs.Goals as goal

pub loop-module-init : goal.loop-module-init
loop-module-init c = record { sized = omega arith; within = λ u v has. absurd (false≢true (sym (no_pair MAX_MODULES u v) ∙ has)) }

pub loop-module-preserved : goal.loop-module-preserved
loop-module-preserved c = record {
  sized = length-set c.loop-module.pairs c.loop-module.module _ ∙ c.loop-module.invariant.sized;
  within = within_more c.loop-module.pairs c.args.reach.now.zero.near c.loop-module.module _ (omega (arith, c.loop-module.invariant.sized))
      c.loop-module.invariant.within;
}
