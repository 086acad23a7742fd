use Rattle.std.proofs.Common.{◌≡◌, ◌<◌, take, arith}
use Rattle.std.proofs.lemmas.List.{take_all, length-take}
use Rattle.std.proofs.lemmas.List.Sums.{count_by-le-length}
use Rattle.batch.specs.declared.limits.TheConstants.{MAX_MODULES}
use Rattle.link_graph.specs.declared.link.End.TheVariants.{Zero, Three}
use Rattle.euler_split.specs.Evenness.{uses_pair}
use Rattle.euler_split.proofs.Modules.{ends_modules, module_in_low}
use Rattle.euler_split.proofs.Evenness.{none_counted, counted_more}
use Rattle.euler_split.proofs.evenly.count_pairs.Goals as goal

pub loop-place-init : goal.loop-place-init
loop-place-init c = (omega arith, none_counted c.args.graph.now)

lows : (c : goal.After-struct_known-in-loop-place-1) → (c.ends_of.result.0.«module» < MAX_MODULES) × (c.ends_of.result.1.«module» < MAX_MODULES)
lows c =
    let t_in = c.requires.known c.loop-place.place 0 c.loop-place-test.true in
    let ends = ends_modules c.args.graph.now _ c.ends_of.result t_in c.ends_of.ensures in (
      omega (arith, ends.0, module_in_low c.args.graph.now Zero _ c.requires.batch t_in),
      omega (arith, ends.1, module_in_low c.args.graph.now Three _ c.requires.batch t_in),
    )

pub overflow_add-counts-in-loop-place : goal.overflow_add-counts-in-loop-place
overflow_add-counts-in-loop-place c =
    let low = lows c in
    let here = c.loop-place.invariant.1.at c.ends_of.result.0.«module» c.ends_of.result.1.«module» low.0 low.1 in
    omega (
      arith,
      here,
      c.requires.few,
      count_by-le-length (uses_pair c.args.graph.now c.ends_of.result.0.«module» c.ends_of.result.1.«module»)
          (take c.loop-place.place c.args.members.now),
      length-take c.loop-place.place c.args.members.now,
    )

pub bounds-counts-start-in-loop-place : goal.bounds-counts-start-in-loop-place
bounds-counts-start-in-loop-place c = let low = lows c in omega (arith, low.0, low.1)

pub loop-place-preserved : goal.loop-place-preserved
loop-place-preserved c =
    let low = lows c in
    let t_in = c.requires.known c.loop-place.place 0 c.loop-place-test.true in
    let ends = ends_modules c.args.graph.now _ c.ends_of.result t_in c.ends_of.ensures in (
      omega (arith, c.loop-place.invariant.0, c.tick.ensures),
      counted_more c.args.graph.now c.args.members.now c.loop-place.counts c.loop-place.place
          c.ends_of.result.0.«module» c.ends_of.result.1.«module» c.loop-place-test.true c.loop-place.invariant.1 low.0 low.1 ends.0 ends.1,
    )

pub returns-clause-counts : goal.returns-clause-counts
returns-clause-counts c =
    let all : take c.loop-place.place c.args.members.now ≡ c.args.members.now = take_all _ _ (omega arith) in
    rw all at c.loop-place.invariant.1
