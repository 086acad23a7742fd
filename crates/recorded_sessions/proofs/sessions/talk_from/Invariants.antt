use Rattle.recorded_sessions.proofs.sessions.talk_from.Given as goal

abbrev pub ghosts-talk_recorded : goal.ghosts-talk_recorded
ghosts-talk_recorded g a = record { held = g.F.Write.contents a.stream; earlier = a.book.history }
