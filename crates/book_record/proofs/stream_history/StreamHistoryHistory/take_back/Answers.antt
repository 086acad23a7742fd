use Rattle.std.proofs.Common.{◌∙◌, ap, sym, subst}
use Rattle.batch_book.specs.History.{IsPrefix}
use Rattle.book_record.specs.Streams.{text_behind}
use Rattle.book_record.proofs.stream_history.StreamHistoryHistory.take_back.Goals as goal

pub append-requires-clause-first : goal.append-requires-clause-first
append-requires-clause-first g c = subst (IsPrefix _) (sym c.queued.ensures) c.requires.first

pub append-requires-clause-text : goal.append-requires-clause-text
append-requires-clause-text g c = c.requires.text ∙ ap (text_behind c.args.recorder.tried) (sym c.queued.ensures)
