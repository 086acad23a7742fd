use Rattle.exchange.proofs.Forewarned.{warning_by}
use Rattle.exchange.proofs.warnings.overlap_warning_of.Goals as goal

pub returns : goal.returns
returns c = warning_by _ c.args.request.now c.overlap_line.result c.if-request.false c.overlap_line.ensures.whole
    (rw c.batch_of.ensures at c.overlap_line.ensures.overlap)
