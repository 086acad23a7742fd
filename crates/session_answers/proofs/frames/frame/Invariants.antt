use Rattle.std.proofs.Common.{◌≡◌, map, take}
use Rattle.session_answers.specs.Frames.{sessions_text}
use Rattle.session_answers.specs.Hosting.{transcript}
use Rattle.session_answers.proofs.frames.frame.Given as goal

abbrev pub invariant-loop-session : goal.invariant-loop-session
invariant-loop-session g l = l.text.items ≡ sessions_text (map transcript (take l.session-index l.sessions))
