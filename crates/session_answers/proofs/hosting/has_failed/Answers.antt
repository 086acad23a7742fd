use Rattle.std.proofs.Common.{sym, ap}
use Rattle.session_answers.specs.HostAnswers.{has_failed}
use Rattle.session_answers.proofs.hosting.has_failed.Goals as goal

pub returns-in-Unopened : goal.returns-in-Unopened
returns-in-Unopened g c = sym (ap has_failed c.in-Unopened.is)
