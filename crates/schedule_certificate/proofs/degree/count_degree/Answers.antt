use Rattle.std.proofs.Common.{Some, refl, sym, arith}
use Rattle.schedule_certificate.proofs.Degrees.{none_counted, start_low, answer_low, counts_low, next_low, next_counted}
use Rattle.schedule_certificate.proofs.degree.count_degree.Goals as goal

pub loop-t-init : goal.loop-t-init
loop-t-init c = (none_counted, omega arith)

pub ends_of-requires : goal.ends_of-requires
ends_of-requires c = c.requires.known c.loop-t.t-index 0 c.loop-t-test.true

pub count_use-starts-requires-clause-module : goal.count_use-starts-requires-clause-module
count_use-starts-requires-clause-module c = start_low c.args.graph.now c.args.part.now c.loop-t.t-index c.requires c.len.ensures.batch c.loop-t-test.true
    (Some c.ends_of.result) c.ends_of.result (sym c.ends_of.ensures) refl

pub count_use-starts-requires-clause-room : goal.count_use-starts-requires-clause-room
count_use-starts-requires-clause-room c = counts_low c.args.graph.now c.args.part.now c.loop-t.t-index c.requires c.len.ensures.batch c.loop-t-test.true
    (Some c.ends_of.result) c.ends_of.result (sym c.ends_of.ensures) refl c.loop-t.uses c.loop-t.degree c.loop-t.invariant.0 _ (omega arith)

pub count_use-answers-requires-clause-module : goal.count_use-answers-requires-clause-module
count_use-answers-requires-clause-module c = answer_low c.args.graph.now c.args.part.now c.loop-t.t-index c.requires c.len.ensures.batch c.loop-t-test.true
    (Some c.ends_of.result) c.ends_of.result (sym c.ends_of.ensures) refl

pub count_use-answers-requires-clause-room : goal.count_use-answers-requires-clause-room
count_use-answers-requires-clause-room c = next_low c.args.graph.now c.args.part.now c.loop-t.t-index c.requires c.len.ensures.batch c.loop-t-test.true
    (Some c.ends_of.result) c.ends_of.result (sym c.ends_of.ensures) refl c.loop-t.uses c.loop-t.degree c.loop-t.invariant.0 c.count_use-starts.result
    c.count_use-starts.new.uses c.count_use-starts.ensures.count c.count_use-starts.ensures.counted _ (omega arith)

pub loop-t-preserved : goal.loop-t-preserved
loop-t-preserved c = (
  next_counted c.args.graph.now c.args.part.now c.loop-t.t-index c.requires c.len.ensures.batch c.loop-t-test.true (Some c.ends_of.result)
      c.ends_of.result (sym c.ends_of.ensures) refl c.loop-t.uses c.loop-t.degree c.loop-t.invariant.0 c.count_use-starts.result c.count_use-starts.new.uses
      c.count_use-starts.ensures.count c.count_use-starts.ensures.counted c.count_use-answers.result c.greater.result c.greater-degree.result
      c.count_use-answers.new.uses c.count_use-answers.ensures.count c.count_use-answers.ensures.counted c.greater.ensures c.greater-degree.ensures,
  omega (arith, c.loop-t.invariant.1, c.tick.ensures),
)
