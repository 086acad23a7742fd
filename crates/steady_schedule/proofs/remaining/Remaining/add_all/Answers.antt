use Rattle.std.proofs.Common.{◌≡◌, ◌<◌, length, take, arith}
use Rattle.std.proofs.lemmas.List.{take_all}
use Rattle.steady_schedule.proofs.Ends.{has_ends, one_more}
use Rattle.steady_schedule.proofs.Waiting.{counted_more, few_wait}
use Rattle.steady_schedule.proofs.remaining.Remaining.add_all.Goals as goal

pub add-requires : goal.add-requires
add-requires c =
    let t_in : c.loop-t.t < length c.args.graph.now = omega arith in
    let e = has_ends c.args.graph.now c.loop-t.t c.ends_of.result c.requires.batch t_in c.ends_of.ensures in
    record {
      zero_in = e.start_low;
      three_in = e.answer_low;
      few = few_wait c.args.graph.now c.loop-t.self.counts c.loop-t.t c.requires.batch t_in
          c.loop-t.invariant;
    }

pub loop-t-preserved : goal.loop-t-preserved
loop-t-preserved c =
    let batch = c.args.graph.now in
    let t = c.loop-t.t in
    let t_in : c.loop-t.t < length c.args.graph.now = omega arith in
    let e = has_ends batch t c.ends_of.result c.requires.batch t_in c.ends_of.ensures in
    rw (one_more batch t e.x e.here, c.add.ensures)
    (counted_more (take t batch) e.x c.loop-t.self.counts c.ends_of.result.0.«module» c.ends_of.result.1.«module» c.loop-t.invariant e.start e.answer
    e.start_low e.answer_low)

pub returns : goal.returns
returns c =
    let all : take c.loop-t.t c.args.graph.now ≡ c.args.graph.now = take_all _ _ (omega arith) in
    rw all at c.loop-t.invariant
