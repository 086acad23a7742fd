use Rattle.std.proofs.Common.{sym, ◌∙◌}
use Rattle.client_session.proofs.Asking.{asks_or}
use Rattle.client_session.proofs.Listening.{tells_more}
use Rattle.client_session.proofs.Served.{cut_before, lost_or, told_or}
use Rattle.client_session.specs.Sessions.{fault_in}
use Rattle.client_session.proofs.serving.serve_seat.Goals as goal

pub returns-then-is_cut_off-clause-session : goal.returns-then-is_cut_off-clause-session
returns-then-is_cut_off-clause-session g c = λ told. cut_before (fault_in c.serve_lines-ended.result) _ _ _ _ _ _ _
    (sym c.is_cut_off.ensures ∙ c.if-is_cut_off.true) (c.serve_lines-ended.ensures.session told)

pub returns-clause-beside : goal.returns-clause-beside
returns-clause-beside g c = tells_more c.serve_lines-ended.ensures.beside c.send_replies.ensures.beside

pub returns-clause-session : goal.returns-clause-session
returns-clause-session g c =
    λ told. rw c.and.ensures (told_or c.send_replies.result c.serve_lines-ended.result _ _ _ _ _ _ _ _ _ (sym c.is_cut_off.ensures ∙ c.if-is_cut_off.false) told
    (c.serve_lines-ended.ensures.session told) c.send_replies.ensures.ok c.send_replies.ensures.err)

pub returns-clause-asks : goal.returns-clause-asks
returns-clause-asks g c = rw c.and.ensures (asks_or c.send_replies.result c.serve_lines-ended.result _ _ _ _ _ c.send_replies.ensures.err
    c.serve_lines-ended.ensures.asks)

pub returns-clause-loses : goal.returns-clause-loses
returns-clause-loses g c =
    rw c.and.ensures (lost_or c.send_replies.result c.serve_lines-ended.result c.send_replies.ensures.loses c.serve_lines-ended.ensures.loses)
