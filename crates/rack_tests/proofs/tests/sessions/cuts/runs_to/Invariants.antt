use Rattle.std.proofs.Common.{[]}
use Rattle.rack_tests.proofs.tests.sessions.cuts.runs_to.Given as goal

abbrev pub ghosts-is_served-L-ExchangeName : goal.ghosts-is_served-L-ExchangeName
ghosts-is_served-L-ExchangeName g a = record { opening = a.rack; earlier = [] }

abbrev pub ghosts-is_served-L-Ledger : goal.ghosts-is_served-L-Ledger
ghosts-is_served-L-Ledger g a = record { name = a.blank.ledger.name; parts = a.blank.ledger.parts }

abbrev pub ghosts-is_served-L-HistoryName : goal.ghosts-is_served-L-HistoryName
ghosts-is_served-L-HistoryName g a = record { table = a.blank.history }
