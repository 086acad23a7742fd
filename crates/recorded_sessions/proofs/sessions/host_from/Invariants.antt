use Rattle.recorded_sessions.proofs.sessions.host_from.Given as goal

abbrev pub ghosts-host_recorded : goal.ghosts-host_recorded
ghosts-host_recorded g a = record { held = g.S.Stream.Write.contents a.stream; earlier = a.book.history }
