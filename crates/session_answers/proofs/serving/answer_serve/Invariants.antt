use Rattle.session_answers.proofs.serving.answer_serve.Given as goal

abbrev pub ghosts-serve_scripts-L-ExchangeName : goal.ghosts-serve_scripts-L-ExchangeName
ghosts-serve_scripts-L-ExchangeName g a = record { opening = a.book.opening; earlier = a.book.history }

abbrev pub ghosts-serve_scripts-L-Ledger : goal.ghosts-serve_scripts-L-Ledger
ghosts-serve_scripts-L-Ledger g a = record { name = a.blank.ledger.name; parts = a.blank.ledger.parts }

abbrev pub ghosts-serve_scripts-L-HistoryName : goal.ghosts-serve_scripts-L-HistoryName
ghosts-serve_scripts-L-HistoryName g a = record { table = a.blank.history }
