use Rattle.std.proofs.Common.{◌∙◌, ap, ◌++◌, List, ℕ, append_assoc, take}
use Rattle.book_record.specs.RecordText.{entry_text, texts}
use Rattle.book_record.proofs.Streams.{texts_more}
use Rattle.book_record.proofs.writing.push_all.Goals as goal

pub loop-at-preserved : goal.loop-at-preserved
loop-at-preserved c =
    let at = c.loop-at.at in
    let e = c.index-history-at.result in
    let before = c.args.text.now.items in
    let front = texts 0 (take at c.args.history.now) in
    c.in_ok-push_entry.ensures ∙ ap (λ (l : List ℕ). l ++ entry_text at e) c.loop-at.invariant ∙ append_assoc before front (entry_text at e)
    ∙ ap (λ (l : List ℕ). before ++ l) (texts_more c.args.history.now at e c.index-history-at.is c.loop-at-test.true)
