use Rattle.std.proofs.Common.{[]}
use Rattle.rack_tests.proofs.tests.book.ways.runs_by_two_of.Given as goal

abbrev pub ghosts-runs_by_two-L-ExchangeName : goal.ghosts-runs_by_two-L-ExchangeName
ghosts-runs_by_two-L-ExchangeName g a = record { opening = a.rack; earlier = [] }

abbrev pub ghosts-runs_by_two-L-Ledger : goal.ghosts-runs_by_two-L-Ledger
ghosts-runs_by_two-L-Ledger g a = record { name = a.blank.ledger.name; parts = a.blank.ledger.parts }

abbrev pub ghosts-runs_by_two-L-HistoryName : goal.ghosts-runs_by_two-L-HistoryName
ghosts-runs_by_two-L-HistoryName g a = record { table = a.blank.history }
