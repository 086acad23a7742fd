use Rattle.std.proofs.Common.{◌≡◌, length}
use Rattle.link_devices.specs.Answering.{HasAnsweredAll}
use Rattle.link_devices.proofs.answering.answer_commands.Given as goal

abbrev pub invariant-loop-before : goal.invariant-loop-before
invariant-loop-before g l = (answered : HasAnsweredAll (g.I.Read.remaining l.initial.reader) (g.I.Read.remaining l.reader) (g.O.Write.contents l.initial.writer)
    (g.O.Write.contents l.writer) (g.E.Write.contents l.initial.err) (g.E.Write.contents l.err) l.initial.end l.end) × (length answered.came ≡ l.before)
