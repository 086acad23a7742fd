use Rattle.std.proofs.Common.{◌∙◌, List, subst, sym, true}
use Rattle.std.specs.Prelude.{IfSome}
use Rattle.batch_book.specs.declared.entry.Entry.{Entry}
use Rattle.batch_book.specs.History.{BookView}
use Rattle.book_record.specs.Streams.{IsWritten as IsStreamed}
use Rattle.recorded_sessions.specs.Live.{IsReady, IsTalkOver}
use Rattle.recorded_sessions.proofs.Lived.{entries_told, same_account, talk_settled}
use Rattle.recorded_sessions.proofs.sessions.talk_recorded.Goals as goal

pub talk_over-end-requires-clause-ready : goal.talk_over-end-requires-clause-ready
talk_over-end-requires-clause-ready g c = λ lifetimes bounds.
    subst IsReady (sym (c.attach_stream-book.ensures ∙ same_account c.args.book c.requires.ready)) c.requires.ready

pub returns-clause-session : goal.returns-clause-session
returns-clause-session g c =
    let book = c.args.book in
    let same = c.attach_stream-book.ensures ∙ same_account book c.requires.ready in
    let t = c.talk_over-end.ensures.session in
    let left = c.talk_over-end.result.1 in
    let old = g.I.Read.remaining c.args.input.now in
    let rest = g.I.Read.remaining c.talk_over-end.new.input in
    let over = subst (λ (a : BookView). IsTalkOver true a old rest t.0 c.talk_over-end.result.0 left) same t.2 in
    let text = subst
    (λ (es : List Entry). IfSome c.finish_recorded.result.stream (λ file. IsStreamed g.N.StreamName.held (g.F.Write.contents file) es left.durable
    left.history left.whole)) (sym c.requires.earlier) c.finish_recorded.ensures.text in
    let entries = entries_told c.finish_recorded.result.stream c.finish_recorded.result.entries left c.finish_recorded.ensures.entries in
    let settled = talk_settled true book c.requires.ready old rest t.0 c.talk_over-end.result.0 left over in (
      t.0,
      left,
      t.1,
      record {
        opening = settled.0;
        machine = c.finish_recorded.ensures.machine;
        whole = c.finish_recorded.ensures.whole;
        all = settled.1;
        text =
            text;
        entries = entries;
      },
      rw c.finish_recorded.ensures.end over,
    )
