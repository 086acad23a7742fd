use Rattle.std.proofs.Common.{◌≤◌}
use Rattle.client_session.specs.Asking.{GivesEachTime}
use Rattle.client_session.specs.Bytes.{fuel}
use Rattle.client_session.specs.Steps.{LinesTaken}
use Rattle.client_session.proofs.turns.take_lines.Given as goal

abbrev pub invariant-loop : goal.invariant-loop
invariant-loop g l =
    LinesTaken (g.I.CountedRead.remaining l.initial.reader) (g.I.CountedRead.remaining l.reader) l.initial.input l.input l.initial.text.items l.text.items
    l.counter × (fuel l.input ≤ fuel l.initial.input)
    × GivesEachTime (g.I.CountedRead.asked l.initial.reader) (g.I.CountedRead.asked l.reader) l.initial.input.reads l.input.reads
