-- What the files hold that a job leaves.
use Rattle.std.specs.Prelude.{[], Option}
use Rattle.batch_book.specs.History.{BookView}
use Rattle.command_words.specs.declared.jobs.Job.{Job}
use Rattle.command_words.specs.declared.jobs.Job.TheVariants.{Sessions}
use Rattle.command_words.specs.declared.jobs.SessionJob.TheVariants.{Host, Talk}
use Rattle.named_files.specs.Contents.{Holding}
use Rattle.named_files.specs.Streams.{Closed}
use Rattle.named_files.specs.declared.write_failures.WriteFailures.{WriteFailures}
use Rattle.named_files.specs.declared.outputs.Receipts.{Receipts}
use Rattle.named_files.specs.Outputs.{no_write_failures, output_of, record_of}
use Rattle.recorded_sessions.specs.Keeping.{AreLiveKept, AreScriptsKept}

-- What went to the files that a job names for its record and for its image, where this is lost of
-- it: of the book that is left, its record and the image of its rack.
abbrev pub AreKeptBut : {C : Type 0} → Holding → (C → Closed) → Job → Option BookView → Receipts C
    → WriteFailures → Type 0
AreKeptBut holds received (Sessions rack (Host clients workers)) left receipts lost =
    AreLiveKept holds received rack clients left receipts lost
AreKeptBut holds received (Sessions rack Talk) left receipts lost =
    AreLiveKept holds received rack [] left receipts lost
AreKeptBut holds received job left receipts lost =
    AreScriptsKept received (record_of job) (output_of job) left receipts lost

-- all of it went there
abbrev pub AreKept : {C : Type 0} → Holding → (C → Closed) → Job → Option BookView → Receipts C
    → Type 0
AreKept holds received job left receipts = AreKeptBut holds received job left receipts
    no_write_failures

-- all of it, or fronts
abbrev pub AreKeptInPart : {C : Type 0} → Holding → (C → Closed) → Job → Option BookView
    → Receipts C → Type 0
AreKeptInPart holds received job left receipts =
    (lost : WriteFailures) × AreKeptBut holds received job left receipts lost
