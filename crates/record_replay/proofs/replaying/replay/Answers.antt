use Rattle.std.proofs.Common.{None, ap, arith, refl, rules, subst, sym}
use Rattle.std.specs.Prelude.{option_map}
use Rattle.record_replay.specs.declared.fault.RecordFault.{RecordFault}
use Rattle.record_replay.specs.Replays.{IsWrongAt, no_call, other_reply}
use Rattle.record_replay.proofs.Entries.{going_on, replayed_so, reply_at, said_wrong}
use Rattle.record_replay.proofs.replaying.replay.Goals as goal

pub returns-in-Err-clause-wrong : goal.returns-in-Err-clause-wrong
returns-in-Err-clause-wrong g c = λ other.
    let l = c.loop-entries in
    let e = c.wrong_at.ensures in
    let wrong = subst (λ (f : RecordFault). IsWrongAt c.args.limit l.entries l.book.machine l.rest.now f c.in-Err.there.now None) (sym e.fault)
    (c.in-Err.ensures.wrong c.args.limit l.book.machine) in
    said_wrong c.args.limit c.args.text.now c.args.rack c.args.first l.entries _ _ l.book l.rest.now _ None _ l.invariant c.log.ensures.replay
    c.unwrap_or-entries-end.ensures (omega (arith, c.loop-entries-test.true)) wrong e.offset (ap (option_map (λ line. line.items)) e.due)

pub returns-in-Err-Call-clause-wrong : goal.returns-in-Err-Call-clause-wrong
returns-in-Err-Call-clause-wrong g c = λ other.
    let l = c.loop-entries in
    let next = rw c.in-Ok-Entry.field-0-is at c.in-Ok-Entry.ensures.next in
    let none = rw c.in-Err-Call.field-0-is at c.in-Err-Call.ensures.fault in
    let e = c.wrong_at-in-Err-Call.ensures in
    said_wrong c.args.limit c.args.text.now c.args.rack c.args.first l.entries _ _ l.book l.rest.now _ None _ l.invariant c.log.ensures.replay
    c.unwrap_or-entries-end.ensures (omega (arith, c.loop-entries-test.true))
    (no_call c.in-Ok-Entry.body.now c.in-Ok-Entry.more.now next.0 none next.1 e.fault refl refl) e.offset (ap (option_map (λ line. line.items)) e.due)

pub returns-in-Err-Reply-clause-wrong : goal.returns-in-Err-Reply-clause-wrong
returns-in-Err-Reply-clause-wrong g c = λ other.
    let l = c.loop-entries in
    let next = rw c.in-Ok-Entry.field-0-is at c.in-Ok-Entry.ensures.next in
    let reply = rw c.in-Err-Reply.field-0-is at c.in-Err-Reply.ensures.fault in
    said_wrong c.args.limit c.args.text.now c.args.rack c.args.first l.entries _ _ l.book l.rest.now _ _ _ l.invariant c.log.ensures.replay
    c.unwrap_or-entries-end.ensures (omega (arith, c.loop-entries-test.true))
    (other_reply c.in-Ok-Entry.body.now c.in-Ok-Entry.more.now c.in-Err-Reply.replied.now c.in-Err-Reply.due.items next.0 reply refl refl refl)
    (reply_at c.args.limit l.entries _ l.book.machine c.args.text.now _ l.rest.now c.in-Ok-Entry.body.now c.in-Ok-Entry.more.now c.in-Err-Reply.replied.now
    c.in-Err-Reply.due.items l.invariant.front next.0 reply (search rules)) (search rules)

pub returns-in-Ok-End-clause-remade : goal.returns-in-Ok-End-clause-remade
returns-in-Ok-End-clause-remade g c =
    let l = c.loop-entries in
    record {
      replayed = replayed_so c.args.limit c.args.text.now c.args.rack l.entries l.book l.rest.now l.invariant c.log.ensures.replay;
      ends = search rules;
    }

pub returns-clause-remade : goal.returns-clause-remade
returns-clause-remade g c =
    let l = c.loop-entries in
    record {
      replayed = replayed_so c.args.limit c.args.text.now c.args.rack l.entries l.book l.rest.now l.invariant c.log-2.ensures.replay;
      ends = search rules;
    }

pub loop-entries-preserved : goal.loop-entries-preserved
loop-entries-preserved g c =
    let l = c.loop-entries in
    let next = rw c.in-Ok-Entry.field-0-is at c.in-Ok-Entry.ensures.next in
    going_on c.args.limit c.args.text.now c.args.rack l.entries l.book c.follow.new.book l.rest.now c.in-Ok-Entry.body.now c.in-Ok-Entry.more.now l.invariant
    next.0 c.in-Ok-follow.ensures.ok c.follow.ensures.opening
