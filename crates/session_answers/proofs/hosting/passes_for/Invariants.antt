use Rattle.std.proofs.Common.{◌≡◌, ◌≤◌, [], length, map, vec_capacity}
use Rattle.std.specs.List.{range_with_len}
use Rattle.session_answers.specs.HostedSessions.{AreEach}
use Rattle.session_answers.proofs.hosting.passes_for.Given as goal

abbrev pub invariant-loop-client : goal.invariant-loop-client
invariant-loop-client g l =
    (length l.passes.items ≡ l.client) ×
    ((g.D.ClientStreams.known l.fn.streams).clients ≤ vec_capacity l.passes) ×
    AreEach (g.D.ClientStreams.admits l.fn.streams) (range_with_len 0 l.client) l.passes.items ×
    (g.D.ClientStreams.passes l.desk ≡ record { given = map (g.D.ClientStreams.known l.fn.streams).named (range_with_len 0 l.client); admitted = [] })
