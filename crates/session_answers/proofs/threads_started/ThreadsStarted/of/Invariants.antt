use Rattle.std.proofs.Common.{◌≡◌, false, take}
use Rattle.std.specs.List.{list_any}
use Rattle.session_answers.specs.HostedSessions.{is_refused}
use Rattle.session_answers.proofs.threads_started.ThreadsStarted.of.Given as goal

abbrev pub invariant-loop-one : goal.invariant-loop-one
invariant-loop-one g l = list_any is_refused (take l.one-index l.started) ≡ false
