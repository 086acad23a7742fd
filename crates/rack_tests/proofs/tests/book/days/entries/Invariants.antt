use Rattle.std.proofs.Common.{[]}
use Rattle.rack_tests.proofs.tests.book.days.entries.Given as goal

abbrev pub ghosts-day-L-ExchangeName : goal.ghosts-day-L-ExchangeName
ghosts-day-L-ExchangeName g a = record { opening = a.rack; earlier = [] }

abbrev pub ghosts-day-L-Ledger : goal.ghosts-day-L-Ledger
ghosts-day-L-Ledger g a = record { name = a.blank.ledger.name; parts = a.blank.ledger.parts }

abbrev pub ghosts-day-L-HistoryName : goal.ghosts-day-L-HistoryName
ghosts-day-L-HistoryName g a = record { table = a.blank.history }
