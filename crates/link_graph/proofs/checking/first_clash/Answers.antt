use Rattle.std.proofs.Common.{[], subst, sym, List, ℕ}
use Rattle.std.proofs.lemmas.List.Elements.{All-more}
use Rattle.link_graph.specs.Uses.{IsMatching}
use Rattle.link_graph.proofs.Firsts.{at_list, whole_end}
use Rattle.link_graph.proofs.checking.first_clash.Goals as goal

pub loop-k-preserved : goal.loop-k-preserved
loop-k-preserved c =
    let at = at_list c.args.lists.now c.loop-k.k c.index-lists-k.result c.as_slice.result.now c.loop-k-test.true c.index-lists-k.is c.as_slice.ensures.value in
    All-more (IsMatching c.args.batch.now) _ _ [] at.0 c.loop-k.invariant
    (subst (λ (s : List ℕ). IsMatching c.args.batch.now s) (sym at.1) c.in_default.ensures.none)

pub returns-clause-none : goal.returns-clause-none
returns-clause-none c = rw (whole_end c.args.lists.now _ c.loop-k-test.false) at c.loop-k.invariant
