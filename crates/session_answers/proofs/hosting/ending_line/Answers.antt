use Rattle.std.proofs.Common.{sym, ap, arith}
use Rattle.session_answers.specs.HostAnswers.{ending_line}
use Rattle.session_answers.proofs.hosting.ending_line.Goals as goal

pub returns-in-Unopened : goal.returns-in-Unopened
returns-in-Unopened g c = record { line = sym (ap ending_line c.in-Unopened.is); room = omega arith }
