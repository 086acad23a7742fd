use Rattle.session_answers.proofs.hosting.host_on.Given as goal

abbrev pub ghosts-host-L-ExchangeName : goal.ghosts-host-L-ExchangeName
ghosts-host-L-ExchangeName g a = record { opening = a.book.opening; earlier = a.book.history }

abbrev pub ghosts-host-L-Ledger : goal.ghosts-host-L-Ledger
ghosts-host-L-Ledger g a = record { name = a.blank.ledger.name; parts = a.blank.ledger.parts }

abbrev pub ghosts-host-L-HistoryName : goal.ghosts-host-L-HistoryName
ghosts-host-L-HistoryName g a = record { table = a.blank.history }
