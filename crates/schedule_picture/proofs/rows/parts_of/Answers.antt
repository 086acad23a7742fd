use Rattle.std.proofs.Common.{rules}
use Rattle.batch.specs.declared.limits.TheConstants.{MAX_MODULES}
use Rattle.schedule_picture.proofs.Table.{parts_none}
use Rattle.schedule_picture.proofs.rows.parts_of.Goals as goal

pub loop-transfer-init : goal.loop-transfer-init
loop-transfer-init c = record { size = search rules; parts = parts_none c.args.batch.now MAX_MODULES }
