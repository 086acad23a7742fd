use Rattle.std.proofs.Common.{◌<◌, add-one, arith}
use Rattle.std.proofs.lemmas.Bool.Decides.{nat_tests}
use Rattle.batch.specs.declared.limits.TheConstants.{MAX_MODULES}
use Rattle.link_graph.specs.declared.link.End.TheVariants.{Zero, Three}
use Rattle.euler_split.proofs.PairCounts.{no_pairs, one_more}
use Rattle.euler_split.proofs.Modules.{ends_modules, module_in_low}
use Rattle.euler_split.proofs.halving.odd_pairs.Goals as goal

pub ends_of-requires : goal.ends_of-requires
ends_of-requires c = c.requires.known c.loop-place.place 0 c.loop-place-test.true

pub loop-place-init : goal.loop-place-init
loop-place-init c = (omega arith, omega (arith, no_pairs _ c.none-pairs.ensures), λ u v. c.none-pairs.ensures u v)

pub loop-place-preserved : goal.loop-place-preserved
loop-place-preserved c =
    let t_in = c.requires.known c.loop-place.place 0 c.loop-place-test.true in
    let ends = ends_modules c.args.graph.now _ c.ends_of.result t_in c.ends_of.ensures in
    let low_zero : c.ends_of.result.0.«module» < MAX_MODULES = omega (arith, ends.0, module_in_low c.args.graph.now Zero _ c.requires.batch t_in) in
    let low_three : c.ends_of.result.1.«module» < MAX_MODULES = omega (arith, ends.1, module_in_low c.args.graph.now Three _ c.requires.batch t_in) in
    let i = c.loop-place.invariant in (
      omega (arith, i.0, c.tick.ensures),
      omega (arith, i.1, one_more _ _ low_zero low_three _ _ c.toggle.ensures.toggled),
      λ u v. rw (add-one, ← ends.0, ← ends.1) (grind (arith, nat_tests, c.toggle.ensures.toggled u v, i.2 u v)),
    )
