use Rattle.std.proofs.Common.{◌∙◌, sym}
use Rattle.book_record.proofs.stream_history.StreamHistoryHistory.lend.Goals as goal

pub returns-clause-queued : goal.returns-clause-queued
returns-clause-queued g c = sym (c.args.self.all c.requires.whole) ∙ sym (c.all_durable.ensures c.requires.whole) ∙ c.requires.all

pub returns-clause-tried : goal.returns-clause-tried
returns-clause-tried g c = sym (c.all_durable.ensures c.requires.whole) ∙ c.requires.all
