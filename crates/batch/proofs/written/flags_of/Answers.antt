use Rattle.std.proofs.Common.{◌∙◌, true, arith, length-set, rules}
use Rattle.batch.specs.declared.limits.TheConstants.{MAX_RACK_BLOCKS}
use Rattle.batch.specs.ShapeView.{widest}
use Rattle.batch.specs.Places.{HasPlace}
use Rattle.batch.proofs.Flags.{up_none, up_more}
use Rattle.batch.proofs.HeldSources.{flags_all}
use Rattle.batch.proofs.written.flags_of.Goals as goal

pub loop-transfer-init : goal.loop-transfer-init
loop-transfer-init c = record { size = search rules; up = up_none c.args.transfers.now MAX_RACK_BLOCKS }

pub loop-transfer-preserved : goal.loop-transfer-preserved
loop-transfer-preserved c =
    let now = c.loop-transfer in
    let k = c.widest_index.result in
    let here : HasPlace widest c.destination.result = search rules in
    record {
      size = length-set now.written k true ∙ now.invariant.size;
      up = up_more c.args.transfers.now now.transfer-index now.written k c.destination.result c.widest_index.ensures.value c.destination.ensures here
          (omega arith) now.invariant.up;
    }

pub returns : goal.returns
returns c = flags_all c.args.transfers.now c.loop-transfer.transfer-index c.loop-transfer.written (omega arith) c.loop-transfer.invariant.up
