use Rattle.std.proofs.Common.{[]}
use Rattle.rack_tests.proofs.tests.sessions.outside.is_outside_of.Given as goal

abbrev pub ghosts-is_outside-L-ExchangeName : goal.ghosts-is_outside-L-ExchangeName
ghosts-is_outside-L-ExchangeName g a = record { opening = a.rack; earlier = [] }

abbrev pub ghosts-is_outside-L-Ledger : goal.ghosts-is_outside-L-Ledger
ghosts-is_outside-L-Ledger g a = record { name = a.blank.ledger.name; parts = a.blank.ledger.parts }

abbrev pub ghosts-is_outside-L-HistoryName : goal.ghosts-is_outside-L-HistoryName
ghosts-is_outside-L-HistoryName g a = record { table = a.blank.history }
