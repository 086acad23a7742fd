use Rattle.std.proofs.Common.{◌≡◌, map, take}
use Rattle.recorded_sessions.proofs.recording.bytes_of_names.Given as goal

abbrev pub invariant-loop-name : goal.invariant-loop-name
invariant-loop-name l = map (λ name. name.now) l.lent.items ≡ take l.name-index l.names
