use Rattle.std.proofs.Common.{[]}
use Rattle.rack_tests.proofs.tests.sessions.served.is_so.Given as goal

abbrev pub ghosts-spend-L-ExchangeName : goal.ghosts-spend-L-ExchangeName
ghosts-spend-L-ExchangeName g a = record { opening = a.rack; earlier = [] }

abbrev pub ghosts-spend-L-Ledger : goal.ghosts-spend-L-Ledger
ghosts-spend-L-Ledger g a = record { name = a.blank.ledger.name; parts = a.blank.ledger.parts }

abbrev pub ghosts-spend-L-HistoryName : goal.ghosts-spend-L-HistoryName
ghosts-spend-L-HistoryName g a = record { table = a.blank.history }
