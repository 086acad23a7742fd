use Rattle.std.proofs.Common.{[]}
use Rattle.rack_tests.proofs.tests.sessions.talks.hear.Given as goal

abbrev pub ghosts-hear_on-L-ExchangeName : goal.ghosts-hear_on-L-ExchangeName
ghosts-hear_on-L-ExchangeName g a = record { opening = a.rack; earlier = [] }

abbrev pub ghosts-hear_on-L-Ledger : goal.ghosts-hear_on-L-Ledger
ghosts-hear_on-L-Ledger g a = record { name = a.blank.ledger.name; parts = a.blank.ledger.parts }

abbrev pub ghosts-hear_on-L-HistoryName : goal.ghosts-hear_on-L-HistoryName
ghosts-hear_on-L-HistoryName g a = record { table = a.blank.history }
