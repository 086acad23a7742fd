-- How the record of live sessions begins, and what its file holds.
use Rattle.std.specs.Prelude.{◌≡◌, ◌≢◌, ◌⊎◌, ◌++◌, ◌+◌, ◌==◌, ℕ, Bool, true, false, List, Option}
use Rattle.std.specs.Prelude.{Some, None, IfSome, MatchOption, [], count_by, length, slice_get}
use Rattle.std.specs.Prelude.{take}
use Rattle.clap.specs.Words.{Text}
use Rattle.batch.specs.Text.{line_feed}
use Rattle.module_memory.specs.Images.{image_of}
use Rattle.module_memory.specs.Store.{Store}
use Rattle.batch_book.specs.declared.entry.Entry.{Entry}
use Rattle.batch_book.specs.History.{BookView, IsReplay}
use Rattle.batch_book.specs.Machine.{Machine, opened}
use Rattle.book_record.specs.Fronts.{last_lines}
use Rattle.book_record.specs.Heads.{head_of, record_of, session_limit}
use Rattle.book_record.specs.Sums.{adler}
use Rattle.record_replay.specs.Replays.{IsRecordError, IsRemade}
use Rattle.record_replay.specs.declared.fault.RecordError.{RecordError}
use Rattle.record_replay.specs.declared.fault.RecordFault.{RecordFault}
use Rattle.record_replay.specs.declared.fault.RecordFault.TheVariants.{Head}
use Rattle.command_words.specs.declared.jobs.RecordFile.{RecordFile}
use Rattle.recorded_sessions.specs.declared.job_result.CutEntry.{CutEntry}
use Rattle.named_files.specs.Contents.{Holding}
use Rattle.named_files.specs.Streams.{Closed, IsFrontOf, closed}

-- the head of the record of sessions on a rack that has these words at first
abbrev pub head_for : Store → List Text → List ℕ
head_for opening names = head_of opening.shape (adler (image_of opening)) names

-- what a record tells of a book so far
abbrev pub record_front : List Text → BookView → List ℕ
record_front names book = record_of names book.opening book.history

-- the head stands there, and these entries after it, of sessions below this, were made again
pub record IsResumed (limit : ℕ) (held head : List ℕ) (opening : Store) (es : List Entry)
    : Type 0 where
  pub text : List ℕ
  pub left : Machine
  pub rest : List ℕ
  pub held_is : held ≡ head ++ text
  pub remade : IsRemade limit text opening None es left rest

-- The file holds as much of the head as may have been written, or all of it: sessions begin anew.
-- Else, where they are to go on, the head of the same rack and the same clients stands there, and
-- the entries after it were made again.
abbrev pub BeginsAs : Bool → List ℕ → Store → List Text → List Entry → Type 0
BeginsAs resumes held opening names es =
    ((missing : List ℕ) × (head_for opening names ≡ held ++ missing) × (es ≡ []))
    ⊎ ((resumes ≡ true)
    × IsResumed (session_limit (length names)) held (head_for opening names) opening es)

-- What is told of a rest that was cut off after this front of a record, which has so many entries:
-- how many bytes it had, and the line with which it began, counted from 1. Of the last lines
-- nothing is told.
abbrev pub IsCutOf : ℕ → List ℕ → List ℕ → Option CutEntry → Type 0
IsCutOf n front rest None = (rest ≡ []) ⊎ (rest ≡ last_lines n)
IsCutOf n front rest (Some cut) =
    (rest ≢ []) × (rest ≢ last_lines n) × (cut.bytes ≡ length rest)
    × (cut.line ≡ count_by (λ byte. byte == line_feed) front + 1)

-- The same of a file that held this, whose record goes on after this front: that stood there, and a
-- rest; or only a front of it, and then nothing was cut off.
pub data IsCutFrom (n : ℕ) (held front : List ℕ) (cut : Option CutEntry) : Type 0 where
  begun_anew : (missing : List ℕ) → front ≡ held ++ missing → cut ≡ None
      → IsCutFrom n held front cut
  gone_on : (rest : List ℕ) → held ≡ front ++ rest → IsCutOf n front rest cut
      → IsCutFrom n held front cut

-- the same where sessions began with this book, whose record goes to this file, or to none
abbrev pub IsCutFromRecord : Holding → Option RecordFile → List Text → BookView → Option CutEntry
    → Type 0
IsCutFromRecord holds None names was cut = cut ≡ None
IsCutFromRecord holds (Some out) names was cut =
    (held : List ℕ) × holds out.name held
    × IsCutFrom (length was.history) held (record_front names was) cut

-- the entries with which sessions begin, where their record goes to this file, or to none
abbrev pub BeginsFor : Holding → Option RecordFile → Store → List Text → List Entry → Type 0
BeginsFor holds None opening names es = es ≡ []
BeginsFor holds (Some out) opening names es =
    (held : List ℕ) × holds out.name held × BeginsAs out.resumes held opening names es

-- the book was opened with these words, and its history leads to its machine
abbrev pub IsBookOn : Store → BookView → Type 0
IsBookOn opening was =
    (was.opening ≡ opening) × IsReplay (opened was.opening) was.history was.machine

-- the book has just the entries with which sessions begin
abbrev pub BeginsWith : Holding → Option RecordFile → Store → List Text → BookView → Type 0
BeginsWith holds record_out opening names was =
    BeginsFor holds record_out opening names was.history × IsBookOn opening was

-- two texts begin with the same bytes, so many, and then one has another, or has ended
abbrev pub IsCommonFront : List ℕ → List ℕ → ℕ → Type 0
IsCommonFront one other n =
    (take n one ≡ take n other)
    × ((byte : ℕ) → slice_get one n ≡ Some byte → slice_get other n ≢ Some byte)

-- what is wrong with a record that is to have this head, by which the numbers of its sessions are
-- below this: it has another, or this is wrong after it
abbrev pub IsWrongRecord : ℕ → List ℕ → List ℕ → Store → RecordFault → Type 0
IsWrongRecord limit held head opening fault =
    (((text : List ℕ) → held ≢ head ++ text) × (fault ≡ Head))
    ⊎ ((text : List ℕ) × (error : RecordError) × (held ≡ head ++ text)
    × IsRecordError limit text opening None error × (fault ≡ error.fault))

-- sessions were to go on, and can't, since the record is wrong
abbrev pub IsWrongFor : Holding → Option RecordFile → Store → List Text → RecordFault → Type 0
IsWrongFor holds None opening names fault = ⊥
IsWrongFor holds (Some out) opening names fault =
    (out.resumes ≡ true) × (held : List ℕ) × holds out.name held
    × IsWrongRecord (session_limit (length names)) held (head_for opening names) opening fault

-- What a record's file that held this has where nothing was asked: of no entry a front of the
-- head; or what the record tells of the entries with which sessions began, and nothing else.
abbrev pub IsRecordStart : Bool → List ℕ → List Text → List ℕ → Type 0
IsRecordStart resumes held names text =
    (opening : Store) × (es : List Entry) × BeginsAs resumes held opening names es
    × (((missing : List ℕ) × (es ≡ []) × (head_for opening names ≡ text ++ missing))
    ⊎ (text ≡ record_of names opening es))

-- The file of the record, if it was opened, holds what it held, or has begun so; and no other file
-- was opened.
abbrev pub IsAsBegun : {C : Type 0} → Holding → (C → Closed) → Option RecordFile → List Text
    → Option C → Type 0
IsAsBegun holds received record_out names receipt =
    IfSome receipt (λ receipt. MatchOption record_out ⊥ (λ out. (held text : List ℕ)
    × holds out.name held × (received receipt ≡ closed out.name (Some text) false)
    × ((text ≡ held) ⊎ IsRecordStart out.resumes held names text)))

-- what a record tells so far stands there; where it isn't whole, a front
abbrev pub IsSoFar : Bool → List ℕ → Option (List ℕ) → Type 0
IsSoFar true text after = after ≡ Some text
IsSoFar false text after = IsFrontOf text after
