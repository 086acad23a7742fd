use Rattle.std.proofs.Common.{◌≡◌, ◌<◌, ℕ, length, ◌∙◌, subst, arith}
use Rattle.link_graph.specs.Schedules.{lists_of}
use Rattle.steady_schedule.specs.Slots.{AreReadInto}
use Rattle.steady_schedule.specs.Waiting.{count_at}
use Rattle.steady_schedule.proofs.Ends.{has_ends}
use Rattle.steady_schedule.proofs.Slots.{counted_less, own_waits, own_number, few_left}
use Rattle.steady_schedule.proofs.Gathered.{none_into, read_into, low_number}
use Rattle.steady_schedule.proofs.numbering.read_all.Goals as goal

pub next_number-number-requires-clause-zero_in : goal.next_number-number-requires-clause-zero_in
next_number-number-requires-clause-zero_in c =
    let t_in : c.loop-t.t < length c.args.graph.now = omega arith in
    (has_ends c.args.graph.now c.loop-t.t c.ends_of.result c.requires.batch t_in c.ends_of.ensures).start_low

pub next_number-number-requires-clause-three_in : goal.next_number-number-requires-clause-three_in
next_number-number-requires-clause-three_in c =
    let t_in : c.loop-t.t < length c.args.graph.now = omega arith in
    (has_ends c.args.graph.now c.loop-t.t c.ends_of.result c.requires.batch t_in c.ends_of.ensures).answer_low

pub next_number-number-requires-clause-some : goal.next_number-number-requires-clause-some
next_number-number-requires-clause-some c =
    let batch = c.args.graph.now in
    let t_in : c.loop-t.t < length c.args.graph.now = omega arith in
    let e = has_ends batch c.loop-t.t c.ends_of.result c.requires.batch t_in c.ends_of.ensures in
    omega (
      arith,
      own_waits batch c.loop-t.t e.x c.loop-t.remaining c.ends_of.result.0.«module» c.ends_of.result.1.«module» c.loop-t.invariant.counted e.here
          e.start e.answer e.start_low e.answer_low,
    )

pub next_number-number-requires-clause-there : goal.next_number-number-requires-clause-there
next_number-number-requires-clause-there c =
    let batch = c.args.graph.now in
    let t_in : c.loop-t.t < length c.args.graph.now = omega arith in
    let e = has_ends batch c.loop-t.t c.ends_of.result c.requires.batch t_in c.ends_of.ensures in
    few_left batch c.loop-t.t c.args.places.now.totals.now c.loop-t.remaining c.ends_of.result.0.«module» c.ends_of.result.1.«module» c.requires.counted
    c.loop-t.invariant.counted e.start_low e.answer_low

pub push_into-requires : goal.push_into-requires
push_into-requires c =
    let batch = c.args.graph.now in
    let totals = c.args.places.now.totals.now in
    let t_in : c.loop-t.t < length batch = omega arith in
    let e = has_ends batch c.loop-t.t c.ends_of.result c.requires.batch t_in c.ends_of.ensures in
    let a = c.ends_of.result.0.«module» in
    let b = c.ends_of.result.1.«module» in
    let some : 0 < count_at c.loop-t.remaining a b =
    omega (arith, own_waits batch c.loop-t.t e.x c.loop-t.remaining a b c.loop-t.invariant.counted e.here e.start e.answer e.start_low e.answer_low) in
    let few = few_left batch c.loop-t.t totals c.loop-t.remaining a b c.requires.counted c.loop-t.invariant.counted e.start_low e.answer_low in
    omega (
      arith,
      c.loop-t.invariant.read.gathered.sized,
      low_number totals c.args.slots.now c.args.settings a b (count_at c.loop-t.remaining a b)
          c.next_number-number.result c.requires.below e.start_low e.answer_low some few c.next_number-number.ensures.number,
    )

pub loop-t-init : goal.loop-t-init
loop-t-init c = record {
  counted = c.requires.counted;
  read = none_into c.args.graph.now c.args.places.now.totals.now c.args.slots.now c.args.settings
      (lists_of c.in_ok-lists.lists.items) c.in_ok-lists.ensures;
}

pub loop-t-preserved : goal.loop-t-preserved
loop-t-preserved c =
    let batch = c.args.graph.now in
    let totals = c.args.places.now.totals.now in
    let t = c.loop-t.t in
    let t_in : t < length batch = omega arith in
    let e = has_ends batch t c.ends_of.result c.requires.batch t_in c.ends_of.ensures in
    let a = c.ends_of.result.0.«module» in
    let b = c.ends_of.result.1.«module» in
    let counted = c.loop-t.invariant.counted in
    let some : 0 < count_at c.loop-t.remaining a b =
    omega (arith, own_waits batch t e.x c.loop-t.remaining a b counted e.here e.start e.answer e.start_low e.answer_low) in
    let few = few_left batch t totals c.loop-t.remaining a b c.requires.counted counted e.start_low e.answer_low in
    let low = low_number totals c.args.slots.now c.args.settings a b (count_at c.loop-t.remaining a b) c.next_number-number.result c.requires.below e.start_low
    e.answer_low some few c.next_number-number.ensures.number in
    let is = c.next_number-number.ensures.number ∙ own_number batch totals c.args.slots.now t e.x c.loop-t.remaining a b counted e.here e.start e.answer
    e.start_low e.answer_low in
    record {
      counted = rw c.next_number-number.ensures.remaining (counted_less batch t e.x c.loop-t.remaining a b counted e.here e.start e.answer e.start_low
          e.answer_low);
      read = rw c.in_ok-push_into.ensures (read_into batch totals c.args.slots.now c.args.settings t c.next_number-number.result e.x
          (lists_of c.loop-t.lists.items) low c.loop-t.invariant.read e.here is);
    }

pub returns : goal.returns
returns c =
    let all : c.loop-t.t ≡ length c.args.graph.now = omega arith in
    subst (λ (n : ℕ). AreReadInto c.args.graph.now c.args.places.now.totals.now c.args.slots.now c.args.settings n (lists_of c.loop-t.lists.items)) all
    c.loop-t.invariant.read
