use Rattle.std.proofs.Common.{[]}
use Rattle.hostile_use.proofs.clients.served_text.Given as goal

abbrev pub ghosts-serve_all-L-ExchangeName : goal.ghosts-serve_all-L-ExchangeName
ghosts-serve_all-L-ExchangeName g a = record { opening = a.rack; earlier = [] }

abbrev pub ghosts-serve_all-L-Ledger : goal.ghosts-serve_all-L-Ledger
ghosts-serve_all-L-Ledger g a = record { name = a.blank.ledger.name; parts = a.blank.ledger.parts }

abbrev pub ghosts-serve_all-L-HistoryName : goal.ghosts-serve_all-L-HistoryName
ghosts-serve_all-L-HistoryName g a = record { table = a.blank.history }
