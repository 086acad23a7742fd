use Rattle.std.proofs.Common.{[]}
use Rattle.rack_tests.proofs.tests.book.readings.is_read_of.Given as goal

abbrev pub ghosts-is_read-L-ExchangeName : goal.ghosts-is_read-L-ExchangeName
ghosts-is_read-L-ExchangeName g a = record { opening = a.rack; earlier = [] }

abbrev pub ghosts-is_read-L-Ledger : goal.ghosts-is_read-L-Ledger
ghosts-is_read-L-Ledger g a = record { name = a.blank.ledger.name; parts = a.blank.ledger.parts }

abbrev pub ghosts-is_read-L-HistoryName : goal.ghosts-is_read-L-HistoryName
ghosts-is_read-L-HistoryName g a = record { table = a.blank.history }
