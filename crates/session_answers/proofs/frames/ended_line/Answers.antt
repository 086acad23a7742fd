use Rattle.std.proofs.Common.{sym, ap, arith}
use Rattle.session_answers.specs.Frames.{ended_line}
use Rattle.session_answers.proofs.frames.ended_line.Goals as goal

pub returns-in-Cut : goal.returns-in-Cut
returns-in-Cut c = record { line = sym (ap ended_line c.in-Cut.is); room = omega arith }
