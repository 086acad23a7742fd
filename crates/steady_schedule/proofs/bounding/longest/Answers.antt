use Rattle.std.proofs.Common.{arith}
use Rattle.steady_schedule.proofs.Covers.{all_unseen}
use Rattle.steady_schedule.proofs.bounding.longest.Goals as goal
use Rattle.steady_schedule.proofs.bounding.longest.Goals.{then-side-link+then-most-least, then-side-link+else-most-least, else-side-link}

pub loop-index-preserved : goal.loop-index-preserved
loop-index-preserved c =
    let link = c.link_at-link.result in
    let low = c.link_at-link.ensures.module in
    elim c.if-side-link.branch [
      | then-side-link+then-most-least w ↦ rw w.longest-is (record {
        low = low;
        full = omega (arith, c.side.ensures.uses link.«module» low, w.if-side-link.true);
        most = λ m m_in. w.most_with-most.ensures m m_in (all_unseen m m_in);
      })
      | then-side-link+else-most-least w ↦ rw w.longest-is c.loop-index.invariant
      | else-side-link w ↦ rw w.longest-is c.loop-index.invariant
    ]
