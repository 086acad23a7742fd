use Rattle.session_answers.proofs.talking.talk_on.Given as goal

abbrev pub ghosts-talk-L-ExchangeName : goal.ghosts-talk-L-ExchangeName
ghosts-talk-L-ExchangeName g a = record { opening = a.book.opening; earlier = a.book.history }

abbrev pub ghosts-talk-L-Ledger : goal.ghosts-talk-L-Ledger
ghosts-talk-L-Ledger g a = record { name = a.blank.ledger.name; parts = a.blank.ledger.parts }

abbrev pub ghosts-talk-L-HistoryName : goal.ghosts-talk-L-HistoryName
ghosts-talk-L-HistoryName g a = record { table = a.blank.history }
