use Rattle.std.proofs.Common.{arith}
use Rattle.std.proofs.lemmas.Grind.{common_steps}
use Rattle.schedule_picture.specs.Places.{takes_part}
use Rattle.steady_schedule.proofs.PartnerMasks.{count_more}
use Rattle.schedule_picture.proofs.rows.Rows.before.Goals as goal

pub loop-m-preserved : goal.loop-m-preserved
loop-m-preserved c = grind (arith, common_steps, count_more c.loop-m.m (takes_part c.args.self.now))
