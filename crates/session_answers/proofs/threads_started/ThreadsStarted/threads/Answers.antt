use Rattle.std.proofs.Common.{refl}
use Rattle.session_answers.proofs.threads_started.ThreadsStarted.threads.Goals as goal

pub returns : goal.returns
returns c = refl
