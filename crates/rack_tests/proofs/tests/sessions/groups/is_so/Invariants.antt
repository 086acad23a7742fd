use Rattle.std.proofs.Common.{[]}
use Rattle.rack_tests.proofs.tests.sessions.groups.is_so.Given as goal

abbrev pub ghosts-hears-L-ExchangeName : goal.ghosts-hears-L-ExchangeName
ghosts-hears-L-ExchangeName g a = record { opening = a.book.opening; earlier = [] }

abbrev pub ghosts-hears-L-Ledger : goal.ghosts-hears-L-Ledger
ghosts-hears-L-Ledger g a = record { name = a.blank.ledger.name; parts = a.blank.ledger.parts }

abbrev pub ghosts-hears-L-HistoryName : goal.ghosts-hears-L-HistoryName
ghosts-hears-L-HistoryName g a = record { table = a.blank.history }
