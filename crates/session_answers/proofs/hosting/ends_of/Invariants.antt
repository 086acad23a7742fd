use Rattle.std.proofs.Common.{◌≡◌, ◌≤◌, length, take, vec_capacity}
use Rattle.session_answers.specs.HostTexts.{ends_text, room_of}
use Rattle.session_answers.proofs.hosting.ends_of.Given as goal

abbrev pub invariant-loop-ending : goal.invariant-loop-ending
invariant-loop-ending g l =
    (l.client ≡ l.ending-index) ×
    (room_of (g.D.ClientStreams.known l.streams) (length l.endings) ≤ vec_capacity l.text) ×
    (length l.text.items ≤ room_of (g.D.ClientStreams.known l.streams) l.client) ×
    (l.text.items ≡ ends_text (g.D.ClientStreams.known l.streams) 0 (take l.ending-index l.endings))
