use Rattle.batch_book.proofs.Fronts.{starts_then}
use Rattle.book_record.proofs.Streams.{with_more}
use Rattle.book_record.proofs.stream_history.StreamHistory.into_writer.Goals as goal

pub returns-clause-written : goal.returns-clause-written
returns-clause-written g c = with_more _ _ _ _ _ _ _ c.into_writer.ensures.written (starts_then _ _ _ c.args.self.first c.text.ensures.first)
