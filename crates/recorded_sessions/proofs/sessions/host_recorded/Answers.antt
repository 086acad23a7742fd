use Rattle.std.proofs.Common.{◌∙◌, List, subst, sym, true}
use Rattle.std.specs.Prelude.{IfSome}
use Rattle.batch_book.specs.declared.entry.Entry.{Entry}
use Rattle.batch_book.specs.History.{BookView}
use Rattle.book_record.specs.Streams.{IsWritten as IsStreamed}
use Rattle.book_record.proofs.Crossing.{streamed_send, waiting_send}
use Rattle.named_files.specs.Clients.{clients_by}
use Rattle.recorded_sessions.specs.Live.{IsHostOver, IsReady}
use Rattle.recorded_sessions.proofs.Lived.{entries_told, host_settled, same_account}
use Rattle.recorded_sessions.proofs.sessions.host_recorded.Goals as goal
use denote.Param.Send.{sendable}

pub host_over-end-requires-clause-ready : goal.host_over-end-requires-clause-ready
host_over-end-requires-clause-ready g c = λ lifetimes bounds.
    subst IsReady (sym (c.attach_stream-book.ensures ∙ same_account c.args.book c.requires.ready)) c.requires.ready

pub host_over-end-requires-send-K : goal.host_over-end-requires-send-K
host_over-end-requires-send-K g c κs within =
    let s = streamed_send _ _ g.S.Stream.Write g.N.StreamName c.type_bounds.send-S-Stream c.type_bounds.send-N in
    search sendable depth 20

pub host_over-end-requires-send-K-Pending : goal.host_over-end-requires-send-K-Pending
host_over-end-requires-send-K-Pending g c κs within =
    let s = waiting_send in
    search sendable depth 20

pub returns-clause-over : goal.returns-clause-over
returns-clause-over g c =
    let book = c.args.book in
    let same = c.attach_stream-book.ensures ∙ same_account book c.requires.ready in
    let clients = clients_by (g.S.ClientFiles.says c.args.streams.now.system.now) (g.S.ClientFiles.had c.args.streams.now.system.now)
    c.args.streams.now.clients.now in
    let left = c.host_over-end.result.1 in
    let over = subst (λ (a : BookView). IsHostOver true a clients c.args.endings.now.items c.host_over-end.new.endings.items c.host_over-end.result.0 left) same
    c.host_over-end.ensures.over in
    let whole = c.finish_recorded.result.is_whole in
    let text = subst
    (λ (es : List Entry). IfSome c.finish_recorded.result.stream (λ file. IsStreamed g.N.StreamName.held (g.S.Stream.Write.contents file) es left.durable
    left.history left.whole)) (sym c.requires.earlier) c.finish_recorded.ensures.text in
    let entries = entries_told c.finish_recorded.result.stream c.finish_recorded.result.entries left c.finish_recorded.ensures.entries in
    let settled = host_settled true book clients _ _ c.host_over-end.result.0 left over in (
      left,
      record {
        opening = settled.0;
        machine = c.finish_recorded.ensures.machine;
        whole = c.finish_recorded.ensures.whole;
        all = settled.1;
        text =
            text;
        entries = entries;
      },
      rw c.finish_recorded.ensures.end over,
    )

pub returns-clause-admitted : goal.returns-clause-admitted
returns-clause-admitted g c = rw c.finish_recorded.ensures.end c.host_over-end.ensures.admitted
