use Rattle.std.proofs.Common.{subst, List, ℕ, IfSome, IfNone}
use Rattle.client_session.specs.Bytes.{HasLine, HasNoFeed}
use Rattle.client_session.proofs.Parts.{first_line, looked_at}
use Rattle.client_session.proofs.input.Input.line_length.Goals as goal

pub returns-clause-none : goal.returns-clause-none
returns-clause-none c =
    subst (λ (l : List ℕ). IfNone c.first_feed.result (HasNoFeed l)) (looked_at _ _ c.min.result c.min.ensures c.pending-pending.ensures.bytes)
    c.first_feed.ensures.none

pub returns-clause-some : goal.returns-clause-some
returns-clause-some c =
    let pending = c.args.self.now.pending in
    first_line c.first_feed.result pending
    (subst (λ (l : List ℕ). IfSome c.first_feed.result (λ n. HasLine l n)) (looked_at _ pending c.min.result c.min.ensures c.pending-pending.ensures.bytes)
    c.first_feed.ensures.some)
