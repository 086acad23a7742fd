use Rattle.batch_book.proofs.book.Book+MemoryHistory.history.Goals as goal

pub returns-clause-legal : goal.returns-clause-legal
returns-clause-legal c = rw (← c.self.view_is) (c.self.inside.batch_store, c.self.invariant.0.replay)
