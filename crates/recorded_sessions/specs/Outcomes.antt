-- What is told where sessions don't begin, and where they have ended.
use Rattle.std.specs.Prelude.{◌≡◌, ◌≢◌, ℕ, Bool, true, List, Option, Result, Ok, Err}
use Rattle.named_files.specs.declared.notes.JobFailure.{JobFailure}
use Rattle.recorded_sessions.specs.declared.job_result.JobResult.{JobResult}
use Rattle.recorded_sessions.specs.declared.recording.StartError.{StartError}
use Rattle.recorded_sessions.specs.declared.recording.StartError.TheVariants.{Missed, Wrong}
use Rattle.named_files.specs.Contents.{Holding}
use Rattle.recorded_sessions.specs.Records.{IsWrongFor, IsWrongRecord}
use Rattle.clap.specs.Words.{Text}
use Rattle.module_memory.specs.Store.{Store}
use Rattle.command_words.specs.declared.jobs.RecordFile.{RecordFile}
use Rattle.plan_answers.specs.Refusals.{Printed, Refuses}
use Rattle.refusals.specs.declared.refusal.Refusal.{Refusal}
use Rattle.record_replay.specs.ReplayAnswers.{of_record}
use Rattle.record_replay.specs.declared.fault.RecordError.{RecordError}
use Rattle.record_replay.specs.declared.fault.RecordFault.TheVariants as fault
use Rattle.named_files.specs.Notes.{IsRefused}

-- why sessions don't begin on this rack whose record's file holds this: there is no answer, or the
-- record is wrong
abbrev pub IsStartError : Bool → ℕ → List ℕ → List ℕ → Store → StartError → Type 0
IsStartError resumes limit held head opening (Missed missed) = IsRefused missed
IsStartError resumes limit held head opening (Wrong error) =
    (resumes ≡ true) × IsWrongRecord limit held head opening error.fault

-- the same where their record goes to this file, or to none
abbrev pub IsUnbegunFor : Holding → Option RecordFile → Store → List Text → StartError → Type 0
IsUnbegunFor holds record_out opening names (Missed missed) = IsRefused missed
IsUnbegunFor holds record_out opening names (Wrong error) =
    IsWrongFor holds record_out opening names error.fault

-- what is told where a record can't be made again
abbrev pub IsReplayError : RecordError → StartError → Type 0
IsReplayError error (Missed missed) = IsRefused missed
IsReplayError error (Wrong told) = (error.fault ≢ fault.NoMemory) × (told.fault ≡ error.fault)

-- what is told where sessions don't begin: the refusal of what is wrong with the record
abbrev pub IsToldOf : StartError → Result JobResult JobFailure → Type 0
IsToldOf (Missed missed) (Ok found) = ⊥
IsToldOf (Missed missed) (Err told) = told ≡ missed
IsToldOf (Wrong error) (Ok found) = Refuses (of_record error.fault) found.answer
IsToldOf (Wrong error) (Err told) = IsRefused told

-- what is told of sessions that have ended, or that were refused
abbrev pub IsToldBy : Result Printed Refusal → Result JobResult JobFailure → Type 0
IsToldBy (Ok printed) (Ok found) = found.answer ≡ printed
IsToldBy (Ok printed) (Err told) = ⊥
IsToldBy (Err refusal) (Ok found) = Refuses refusal found.answer
IsToldBy (Err refusal) (Err told) = IsRefused told
