use Rattle.std.proofs.Common.{[]}
use Rattle.rack_tests.proofs.tests.book.syncs.holds_of.Given as goal

abbrev pub ghosts-holds-L-ExchangeName : goal.ghosts-holds-L-ExchangeName
ghosts-holds-L-ExchangeName g a = record { opening = a.book.opening; earlier = [] }

abbrev pub ghosts-holds-L-Ledger : goal.ghosts-holds-L-Ledger
ghosts-holds-L-Ledger g a = record { name = a.blank.ledger.name; parts = a.blank.ledger.parts }

abbrev pub ghosts-holds-L-HistoryName : goal.ghosts-holds-L-HistoryName
ghosts-holds-L-HistoryName g a = record { table = a.blank.history }
