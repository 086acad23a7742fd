use Rattle.std.proofs.Common.{sym, ◌∙◌, eq-eqb}
use Rattle.schedule_certificate.proofs.Apart.{by_responders, shared_start}
use Rattle.schedule_certificate.proofs.greedy.share_link.Goals as goal

pub returns-then-x-y : goal.returns-then-x-y
returns-then-x-y c = rw (eq-eqb _ _ c.if-x-y.true) (shared_start _ _ _ c.in-Some-Some.x c.in-Some-Some.y (sym c.transfer.ensures ∙ c.in-Some-Some.is-0)
    (sym c.transfer-2.ensures ∙ c.in-Some-Some.is-1) c.if-x-y.true)

pub returns-else-x-y : goal.returns-else-x-y
returns-else-x-y c = by_responders _ _ _ c.in-Some-Some.x c.in-Some-Some.y (sym c.transfer.ensures ∙ c.in-Some-Some.is-0)
    (sym c.transfer-2.ensures ∙ c.in-Some-Some.is-1) c.if-x-y.false
