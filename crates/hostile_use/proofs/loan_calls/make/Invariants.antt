use Rattle.std.proofs.Common.{[]}
use Rattle.hostile_use.proofs.loan_calls.make.Given as goal

abbrev pub ghosts-open_exchange-L-ExchangeName : goal.ghosts-open_exchange-L-ExchangeName
ghosts-open_exchange-L-ExchangeName g a = record { opening = a.rack; earlier = [] }

abbrev pub ghosts-open_exchange-L-Ledger : goal.ghosts-open_exchange-L-Ledger
ghosts-open_exchange-L-Ledger g a = record { name = a.blank.ledger.name; parts = a.blank.ledger.parts }

abbrev pub ghosts-open_exchange-L-HistoryName : goal.ghosts-open_exchange-L-HistoryName
ghosts-open_exchange-L-HistoryName g a = record { table = a.blank.history }
