use Rattle.std.proofs.Common.{◌≡◌, ◌∙◌, true, false, arith, sym}
use Rattle.link_graph.proofs.Users.{one_user, other_user, all_users}
use Rattle.link_graph.proofs.counting.users_of.Goals as goal
use Rattle.link_graph.proofs.counting.users_of.Goals.{then-uses_link+in_ok-push, else-uses_link}

pub loop-t-preserved : goal.loop-t-preserved
loop-t-preserved c =
    elim c.if-uses_link.branch [
      | then-uses_link+in_ok-push w ↦
          rw w.users-is (
            rw w.in_ok-push.ensures.items (one_user _ _ _ _ c.loop-t.invariant.0 (c.uses_link.ensures.0 w.if-uses_link.true)),
            omega (arith, c.loop-t.invariant.1, c.tick.ensures),
          )
      | else-uses_link w ↦ rw w.users-is (
        other_user _ _ _ _ (omega (arith, c.loop-t-test.true, c.len-t-end.ensures.value)) c.loop-t.invariant.0
            (λ used. let bad : false ≡ true = sym w.if-uses_link.false ∙ c.uses_link.ensures.1 used in cc),
        omega (arith, c.loop-t.invariant.1, c.tick.ensures),
      )
    ]

pub returns-clause-users : goal.returns-clause-users
returns-clause-users c = (all_users _ _ _ _ (omega (arith, c.loop-t-test.false, c.len-t-end.ensures.value)) c.loop-t.invariant.0).0

pub returns-clause-count : goal.returns-clause-count
returns-clause-count c = (all_users _ _ _ _ (omega (arith, c.loop-t-test.false, c.len-t-end.ensures.value)) c.loop-t.invariant.0).1
