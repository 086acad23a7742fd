use Rattle.std.proofs.Common.{rules}
use Rattle.exchange.proofs.Forewarned.{warning_by, high_by}
use Rattle.exchange.proofs.warnings.warning_of.Goals as goal

pub returns-in-Plan : goal.returns-in-Plan
returns-in-Plan c = rw (c.requires.job, c.in-Plan.is) c.overlap_warning_of.ensures

pub returns-in-Switch : goal.returns-in-Switch
returns-in-Switch c = rw (c.requires.job, c.in-Switch.is) c.overlap_warning_of-in-Switch.ensures

pub returns-in-Draw : goal.returns-in-Draw
returns-in-Draw c =
    rw (c.requires.job, c.in-Draw.is) (warning_by _ c.args.request.now c.high_line.result (search rules) c.high_line.ensures.whole
    (high_by _ c.args.answer.now c.high_line.result (rw c.in-Draw.is at c.requires.answer) (rw c.text.ensures at c.high_line.ensures.high)))
