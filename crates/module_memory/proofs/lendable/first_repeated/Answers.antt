use Rattle.std.proofs.Common.{rules}
use Rattle.batch.specs.declared.limits.TheConstants.{MAX_RACK_BLOCKS}
use Rattle.module_memory.proofs.Repeats.{none_come, one_more}
use Rattle.module_memory.proofs.lendable.first_repeated.Goals as goal

pub loop-i-init : goal.loop-i-init
loop-i-init c = record { size = search rules; come = none_come c.args.places.now MAX_RACK_BLOCKS }

pub loop-i-preserved : goal.loop-i-preserved
loop-i-preserved c = record {
  size = search rules;
  come = one_more c.args.places.now c.loop-i.i c.loop-i.taken c.widest_index-index.result (search rules) (search rules) (search rules) c.loop-i.invariant.come;
}
