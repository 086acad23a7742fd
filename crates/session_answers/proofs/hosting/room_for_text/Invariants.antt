use Rattle.std.proofs.Common.{◌≡◌}
use Rattle.session_answers.specs.HostTexts.{room_of}
use Rattle.session_answers.proofs.hosting.room_for_text.Given as goal

abbrev pub invariant-loop-client : goal.invariant-loop-client
invariant-loop-client g l = l.room ≡ room_of (g.D.ClientStreams.known l.fn.streams) l.client
