use Rattle.std.proofs.Common.{◌≡◌, ◌∙◌, ℕ, ap, rules}
use Rattle.book_record.specs.RecordText.{id_of, reply_text}
use Rattle.book_record.proofs.Put.{has_room}
use Rattle.record_replay.proofs.Entries.{came_as}
use Rattle.record_replay.proofs.following.follow.Goals as goal

pub due_line-requires : goal.due_line-requires
due_line-requires g c = has_room c.in_ok-call.call c.in_ok-reply.reply c.in_ok-reply.ensures.answers

pub returns-then-eq-clause-ok : goal.returns-then-eq-clause-ok
returns-then-eq-clause-ok g c =
    let read = rw c.in-Some.is at c.in_ok-session.ensures.some in
    let told = c.in-Some.told in
    let reply = c.in_ok-reply.reply in
    let line : c.in_ok-due.due.items ≡ reply_text (id_of told) reply = c.in_ok-due.ensures ∙ ap (λ (n : ℕ). reply_text n reply) c.id_of-id.ensures in
    let same : c.in-Some.replied.now ≡ c.in_ok-due.due.items = search rules in
    came_as c.args.limit c.args.book.now c.ask.new.book c.args.body.now c.in-Some.replied.now c.in-Some.session told c.in_ok-call.call reply
    c.in_ok-call.ensures.told read.0 read.1 read.2 c.in_ok-reply.ensures.can c.in_ok-reply.ensures.grown read.3 (same ∙ line)
