-- The files to which go the record of sessions and the image that they leave.
use Rattle.std.specs.Prelude.{◌≡◌, ℕ, List, [], Option, Some, None, ⊤, codes, Bool, true, false}
use Rattle.std.specs.Prelude.{IfSome, MatchOption, is_some, not, option_map, string_bytes}
use Rattle.std.specs.Prelude.{unwrap_or}
use Rattle.command_words.specs.declared.jobs.Job.{Job}
use Rattle.command_words.specs.Jobs.{recorded_in, serves_live}
use Rattle.named_files.specs.Notes.{IsToldInPart}
use Rattle.named_files.specs.Contents.{Holding}
use Rattle.named_files.specs.Streams.{Closed, IsFrontOf, IsLeftOf, closed, written_to}
use Rattle.named_files.specs.declared.outputs.Receipts.{Receipts}
use Rattle.named_files.specs.declared.output_failure.OutputFailure.{OutputFailure}
use Rattle.named_files.specs.declared.output_failure.OutputFailure.TheVariants.{Answer}
use Rattle.named_files.specs.declared.output_failure.OutputFailure.TheVariants.{SessionFiles}
use Rattle.named_files.specs.declared.output_failure.OutputFailure.TheVariants.{Nowhere, Setting}
use Rattle.clap.specs.Words.{Text}
use Rattle.command_words.specs.declared.jobs.Job.TheVariants.{Sessions}
use Rattle.named_files.specs.declared.write_failures.WriteFailures.{WriteFailures}
use Rattle.named_files.specs.declared.write_failures.WriteFailure.{WriteFailure}
use Rattle.named_files.specs.declared.outputs.NamedOutput.{NamedOutput}
use Rattle.named_files.specs.declared.outputs.Outputs.{Outputs}

-- nothing is lost
abbrev pub no_write_failures : WriteFailures
no_write_failures = record { recorded = None; image = None }

-- the line that says why a file couldn't be written; none of it where there was no memory for it
abbrev pub line_of : WriteFailure → List ℕ
line_of reason = unwrap_or (option_map (λ line. string_bytes line) reason.line) []

-- as much of that line as could be written was told, where something is lost
abbrev pub IsWhyTold : Option WriteFailure → Option (List ℕ) → Option (List ℕ) → Type 0
IsWhyTold None before after = after ≡ before
IsWhyTold (Some reason) before after = IsToldInPart before after (line_of reason)

-- it was told why the record is lost, and then why the image is
abbrev pub IsLostTold : WriteFailures → Option (List ℕ) → Option (List ℕ) → Type 0
IsLostTold lost before after =
    (mid : Option (List ℕ)) × IsWhyTold lost.recorded before mid × IsWhyTold lost.image mid after

-- the name of the file that is open, if one is
abbrev pub name_of : {F : Type 0} → Option (NamedOutput F) → Option Text
name_of out = option_map (λ out. out.name.now) out

-- the file to which the record of a job's sessions goes, where it goes to one
abbrev pub record_of : Job → Option Text
record_of (Sessions rack job) = recorded_in rack
record_of job = None

-- the file to which the image goes that a job leaves, where it goes to one
abbrev pub output_of : Job → Option Text
output_of (Sessions rack job) = rack.image_out
output_of job = None

-- the record of a job's sessions goes on after what its file holds
abbrev pub is_live : Job → Bool
is_live (Sessions rack job) = serves_live job
is_live job = false

-- a new file holds nothing
abbrev pub is_new : Holding
is_new name held = held ≡ []

-- what holds of a file as it is opened: it has these bytes, or is new
abbrev pub begins_with : Holding → Bool → Holding
begins_with holds true = holds
begins_with holds false = is_new

-- the file that is open, if one is, has this name, and holds what it held as it was opened
abbrev pub IsOpened : {F : Type 0} → (F → Option (List ℕ)) → Holding → Option Text
    → Option (NamedOutput F) → Type 0
IsOpened contents begins name out =
    IfSome out (λ out. (name ≡ Some out.name.now) × begins out.name.now out.held.items
    × (written_to out.name.now (contents out.file) ≡ Some out.held.items))

-- the file of the record is open so, and for the image a new file is
abbrev pub AreOpened : {F : Type 0} → (F → Option (List ℕ)) → Holding → Option Text → Option Text
    → Outputs F → Type 0
AreOpened contents begins record_out image_out outputs =
    IsOpened contents begins record_out outputs.recorded
    × IsOpened contents is_new image_out outputs.image

-- the files that are open have these names, each where there is one
abbrev pub AreNamed : {F : Type 0} → Option Text → Option Text → Outputs F → Type 0
AreNamed record_out image_out outputs =
    (name_of outputs.recorded ≡ record_out) × (name_of outputs.image ≡ image_out)

-- no file is open
abbrev pub none_open : {F : Type 0} → Outputs F
none_open = record { recorded = None; image = None }

-- no file was opened
abbrev pub none_opened : {C : Type 0} → Receipts C
none_opened = record { recorded = None; image = None }

-- the streams that are open, if there are any
abbrev pub stream_of : {F : Type 0} → Option (NamedOutput F) → Option F
stream_of out = option_map (λ out. out.file) out

-- what is left of a stream that was closed and put nowhere, if one was open
abbrev pub IsLeftOfAny : {F C : Type 0} → (F → Option (List ℕ)) → (C → Closed) → Option F
    → Option C → Type 0
IsLeftOfAny contents received None receipt = receipt ≡ None
IsLeftOfAny contents received (Some file) None = ⊥
IsLeftOfAny contents received (Some file) (Some receipt) =
    IsLeftOf (contents file) false (received receipt)

-- nothing went to the new file for this name, if one was opened, and it was put nowhere; and no
-- other was opened
abbrev pub HasNothingGone : {C : Type 0} → (C → Closed) → Option Text → Option C → Type 0
HasNothingGone received name receipt =
    IfSome receipt (λ receipt. MatchOption name ⊥ (λ name.
    received receipt ≡ closed name (Some []) false))

-- these bytes are what a file holds; or a front of them, where it is told why not all stand there
abbrev pub IsWritten : List ℕ → Option (List ℕ) → Option WriteFailure → Type 0
IsWritten bytes after None = after ≡ Some bytes
IsWritten bytes after (Some lost) = IsFrontOf bytes after

-- So it is of the file that was opened by this name, and it was put in its place where all stands
-- there, and only then. Where there is no name, none was opened.
abbrev pub IsFileWritten : {C : Type 0} → (C → Closed) → Option Text → List ℕ → Option C
    → Option WriteFailure → Type 0
IsFileWritten received None bytes receipt lost = (receipt ≡ None) × (lost ≡ None)
IsFileWritten received (Some name) bytes None lost = ⊥
IsFileWritten received (Some name) bytes (Some receipt) lost =
    IsWritten bytes (received receipt).bytes lost
    × ((received receipt).durable ≡ not (is_some lost)) × ((received receipt).name ≡ name)

-- a new file, if one was opened, was put nowhere
abbrev pub IsUnput : {C : Type 0} → (C → Closed) → Option C → Type 0
IsUnput received receipt = IfSome receipt (λ receipt. (received receipt).durable ≡ false)

-- what was told on standard error of what couldn't be written; where it is an answer, or a reason
-- is known, it may be any text
abbrev pub IsUnwrittenTold : OutputFailure → Option (List ℕ) → Option (List ℕ) → Type 0
IsUnwrittenTold (Answer error lost) before after = ⊤
IsUnwrittenTold Nowhere before after = after ≡ before
IsUnwrittenTold (Setting (Some error)) before after = ⊤
IsUnwrittenTold (Setting None) before after =
    IsToldInPart before after (codes "exchange: a setting that is set can't be printed\n")
IsUnwrittenTold (SessionFiles lost) before after = IsLostTold lost before after
