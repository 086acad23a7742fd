use Rattle.std.proofs.Common.{◌≡◌, ◌∙◌, ◌++◌, ap, append_assoc, drop, length, rules}
use Rattle.batch_book.specs.History.{entry}
use Rattle.book_record.specs.RecordText.{id_of, reply_text}
use Rattle.book_record.proofs.Put.{has_room}
use Rattle.book_record.specs.Sums.{sum_at, sum_line}
use Rattle.book_record.proofs.Streams.{drafted_text, more_held, next_number, summed_text}
use Rattle.book_record.proofs.pending_text.PendingTextEntryLog.push.Goals as goal

pub push_logged-requires : goal.push_logged-requires
push_logged-requires c = has_room c.args.entry.call c.args.entry.reply c.requires.answers

pub invariant_of-self : goal.invariant_of-self
invariant_of-self c =
    let e = c.args.entry in
    let inside = c.self.inside in
    let drafted = (rw (← c.self.view_is) at c.requires.drafted).0 in
    let text = drop inside.waits inside.buffer.items in
    let put = rw c.unwrap.ensures at c.push_logged.ensures.put in
    let summed = rw c.unwrap-2.ensures at c.push_sum_of.ensures.put in
    let id = c.id_of-id.ensures ∙ ap id_of c.told.ensures in
    let told = ap (λ n. text ++ reply_text n e.reply) id ∙ drafted_text text e.session e.call e.reply drafted in
    let reply = reply_text c.id_of-id.result e.reply in
    let whole = summed_text (length inside.past) inside.number inside.buffer.items reply inside.waits e.session e.call e.reply c.self.invariant.1
    c.self.invariant.0.1 told in
    let both = summed ∙ (λ i. put i ++ sum_line (sum_at inside.number (drop inside.waits (put i)))) ∙ append_assoc inside.buffer.items reply
    (sum_line (sum_at inside.number (drop inside.waits (inside.buffer.items ++ reply)))) in
    let long : c.len-self-inside.result ≡ length c.push_sum_of.new.text.items = search rules in (
      more_held _ _ (entry e.session e.call e.reply) _ _ _ _ _ _ c.self.invariant.0 c.add.ensures both whole long,
      next_number _ _ _ _ c.self.invariant.1 c.add.ensures,
    )
