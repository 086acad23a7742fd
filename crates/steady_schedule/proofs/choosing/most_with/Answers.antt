use Rattle.std.proofs.Common.{◌≡◌, arith}
use Rattle.std.specs.Prelude.{max}
use Rattle.steady_schedule.proofs.Reaches.{most_begun, most_more}
use Rattle.steady_schedule.proofs.choosing.most_with.Goals as goal

pub others-init : goal.others-init
others-init c = most_begun c.args.remaining.now.counts c.side.result.now.near c.args.end c.args.link c.args.others
    (λ y y_in. c.side.ensures.near c.args.link y c.requires y_in)

pub others-preserved : goal.others-preserved
others-preserved c =
    let larger : c.max-most.result ≡ max c.others.most c.between.result = c.max-most.ensures in
    most_more c.args.remaining.now.counts c.args.end c.args.link c.args.others c.others.rest c.without_module-rest.result c.others.most c.max-most.result
    c.lowest-other.result c.without_module-rest.ensures.others (omega (arith, larger)) (omega (arith, larger, c.between.ensures)) c.others.invariant
