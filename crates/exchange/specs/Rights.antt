-- What can be done isn't refused.
use Rattle.std.specs.Prelude.{ℕ, List, ⊤}
use Rattle.command_words.specs.Jobs.{Files}
use Rattle.command_words.specs.declared.jobs.TextJob.{TextJob}
use Rattle.command_words.specs.declared.jobs.TextJob.TheVariants.{Replay}
use Rattle.refusals.specs.declared.refusal.Refusal.{Refusal}
use Rattle.exchange.specs.Promises.{IsFirstWrongIn, IsTextDone}

-- the job is `replay`
abbrev pub IsReplayJob : TextJob → Type 0
IsReplayJob (Replay shape recorded image first) = ⊤
IsReplayJob job = ⊥

-- Nothing is wrong with texts by which a job can be done. Of `replay` this says nothing.
abbrev pub RightIsNotWrong : Type 0
RightIsNotWrong =
    (job : TextJob) (texts : Files (List ℕ)) (printed : List ℕ) (refusal : Refusal)
    → IsTextDone job texts printed → IsFirstWrongIn job texts refusal → IsReplayJob job
