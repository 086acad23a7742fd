-- What the files hold to which go the record of sessions and the image that they leave.
use Rattle.std.specs.Prelude.{◌≡◌, ℕ, false, true, List, [], Option, Some, None, IfSome, is_some}
use Rattle.std.specs.Io.KnownBytes.{Appends}
use Rattle.clap.specs.Words.{Text}
use Rattle.module_memory.specs.Images.{image_of}
use Rattle.batch_book.specs.History.{BookView}
use Rattle.command_words.specs.Jobs.{recorded_in}
use Rattle.command_words.specs.declared.jobs.SharedRack.{SharedRack}
use Rattle.record_replay.specs.SessionRecords.{IsRecorded}
use Rattle.named_files.specs.Contents.{Holding}
use Rattle.named_files.specs.Streams.{Closed}
use Rattle.book_record.specs.Heads.{whole_record}
use Rattle.recorded_sessions.specs.Records.{IsAsBegun}
use Rattle.named_files.specs.declared.write_failures.WriteFailures.{WriteFailures}
use Rattle.named_files.specs.declared.outputs.Receipts.{Receipts}
use Rattle.named_files.specs.Outputs.{HasNothingGone, IsFileWritten, IsUnput, no_write_failures}

-- something was put after what stood there
abbrev pub HasGrown : Option (List ℕ) → Option (List ℕ) → Type 0
HasGrown before after = (more : List ℕ) × Appends before after more

-- A front of the book's whole record is there: its head, each entry of the book that stands where
-- it belongs, and maybe more. What a session was told are the first ones of its own among these,
-- and of a whole book these are all (`HaveOneHistory`).
abbrev pub HasAllTold : List Text → BookView → Option (List ℕ) → Type 0
HasAllTold names book text = (file : List ℕ) × (text ≡ Some file) × IsRecorded names book file

-- The files of the record and of the image that this book leaves were written and closed, so far as
-- nothing of them is lost. All of the image stands in its file, or that is as it was.
abbrev pub AreWritten : {C : Type 0} → (C → Closed) → Option Text → Option Text → List Text
    → BookView → Receipts C → WriteFailures → Type 0
AreWritten received record_out image_out names left receipts lost =
    IsFileWritten received record_out (whole_record names left.opening left.history)
    receipts.recorded lost.recorded
    × IsFileWritten received image_out (image_of left.machine.store) receipts.image lost.image

-- The same of live sessions. Where an entry couldn't be recorded, or the record couldn't be ended,
-- the image is put nowhere: it could have more than the record tells. But each answer that was told
-- stands in the record. Where no book is left, the file of the record is as it was, or as sessions
-- began with it, and nothing is lost.
abbrev pub AreLiveKept : {C : Type 0} → Holding → (C → Closed) → SharedRack → List Text
    → Option BookView → Receipts C → WriteFailures → Type 0
AreLiveKept holds received rack names None receipts lost =
    IsAsBegun holds received rack.record_out names receipts.recorded
    × HasNothingGone received rack.image_out receipts.image × (lost ≡ no_write_failures)
AreLiveKept holds received rack names (Some left) receipts lost =
    AreWritten received (recorded_in rack) rack.image_out names left receipts lost
    × (left.whole ≡ false → IsUnput received receipts.image)
    × (is_some lost.recorded ≡ true → IsUnput received receipts.image)
    × IfSome receipts.recorded (λ receipt. HasAllTold names left (received receipt).bytes)

-- The same of scripts. Where no book is left, nothing was written.
abbrev pub AreScriptsKept : {C : Type 0} → (C → Closed) → Option Text → Option Text
    → Option BookView → Receipts C → WriteFailures → Type 0
AreScriptsKept received record_out image_out None receipts lost =
    HasNothingGone received record_out receipts.recorded
    × HasNothingGone received image_out receipts.image × (lost ≡ no_write_failures)
AreScriptsKept received record_out image_out (Some left) receipts lost =
    AreWritten received record_out image_out [] left receipts lost
