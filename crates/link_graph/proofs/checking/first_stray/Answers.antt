use Rattle.std.proofs.Common.{◌≡◌, true, false, sym, ◌∙◌}
use Rattle.link_graph.specs.Checks.{UsesNamed}
use Rattle.link_graph.proofs.Firsts.{without_at, all_of}
use Rattle.link_graph.proofs.checking.first_stray.Goals as goal

pub returns-then-not-uses_named-clause-some : goal.returns-then-not-uses_named-clause-some
returns-then-not-uses_named-clause-some c = without_at (UsesNamed c.args.batch.now c.args.link) _ _ 0 c.loop-t-test.true c.loop-t.invariant
    (λ used. let bad : false ≡ true = sym c.if-not-uses_named.true ∙ c.uses_named.ensures.1 used in cc)

pub returns-clause-none : goal.returns-clause-none
returns-clause-none c = all_of (UsesNamed c.args.batch.now c.args.link) _ _ c.loop-t-test.false c.loop-t.invariant
