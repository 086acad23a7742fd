-- A job by whose sessions nothing is written.
use Rattle.std.proofs.Common.{ℕ, List, [], Option, None, refl}
use Rattle.command_words.specs.declared.jobs.Job.{Job}
use Rattle.command_words.specs.declared.jobs.Job.TheVariants.{Sessions}
use Rattle.command_words.specs.declared.jobs.SessionJob.TheVariants.{Host, Talk}
use Rattle.exchange.specs.Keeping.{AreKept}
use Rattle.named_files.specs.Outputs.{AreOpened, IsLeftOfAny, begins_with, is_live, output_of, record_of, stream_of}
use Rattle.named_files.specs.Streams.{Closed}
use Rattle.named_files.specs.declared.outputs.Outputs.{Outputs}
use Rattle.named_files.specs.declared.outputs.Receipts.{Receipts}
use Rattle.named_files.proofs.Written.{nothing_gone}
use Rattle.recorded_sessions.proofs.Held.{as_held}

-- nothing was written of what was opened for a job
pub kept_none : {F C : Type 0} (holds : List ℕ → List ℕ → Type 0) (contents : F → Option (List ℕ)) (received : C → Closed) (job : Job) (outputs : Outputs F)
    (receipts : Receipts C)
    → AreOpened contents (begins_with holds (is_live job)) (record_of job) (output_of job) outputs
    → IsLeftOfAny contents received (stream_of outputs.recorded) receipts.recorded → IsLeftOfAny contents received (stream_of outputs.image) receipts.image
    → AreKept holds received job None receipts
kept_none holds contents received (Sessions rack (Host clients workers)) outputs receipts opened one two = (
  as_held holds contents received rack.record_out clients outputs.recorded receipts.recorded opened.0 one,
  nothing_gone contents received rack.image_out
      outputs.image receipts.image opened.1 two,
  refl,
)
kept_none holds contents received (Sessions rack Talk) outputs receipts opened one two = (
  as_held holds contents received rack.record_out [] outputs.recorded receipts.recorded opened.0 one,
  nothing_gone contents received rack.image_out
      outputs.image receipts.image opened.1 two,
  refl,
)
kept_none holds contents received job outputs receipts opened one two = (
  nothing_gone contents received (record_of job) outputs.recorded receipts.recorded opened.0 one,
  nothing_gone contents received (output_of job)
      outputs.image receipts.image opened.1 two,
  refl,
)
