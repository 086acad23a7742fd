-- Which files are one, by what their names lead to.
use Rattle.std.specs.Prelude.{◌≡◌, ◌≢◌, ◌⊎◌, ◌↔◌, ℕ, Bool, false, List, Option, All, AllPairs}
use Rattle.std.specs.Prelude.{Contains, IfSome, IsTrue, MatchOption, codes, string_bytes}
use Rattle.clap.specs.Words.{Text}
use Rattle.command_words.specs.declared.uses.Access.{Access}
use Rattle.command_words.specs.declared.jobs.Job.{Job}
use Rattle.command_words.specs.declared.uses.Access.TheVariants.{Port, Read, Told, Write}
use Rattle.command_words.specs.declared.uses.FileUse.{FileUse}
use Rattle.command_words.specs.Jobs.{Exclude, all_files, file, file_uses, files_of}
use Rattle.named_files.specs.declared.file_id.FileKind.{FileKind}
use Rattle.named_files.specs.declared.file_id.FileKind.TheVariants.{Device, Null, Plain}
use Rattle.named_files.specs.declared.file_id.FileId.{FileId}

-- a name leads to this file, or no file can be told
abbrev pub Leading : Type 1
Leading = List ℕ → Option FileId → Type 0

-- both are one file that is there, or one name in one folder
pub record AreOneFile (one other : FileId) : Type 0 where
  pub device : one.device ≡ other.device
  pub number : one.number ≡ other.number
  pub name : string_bytes one.name ≡ string_bytes other.name

-- it is a character device, as a terminal is
abbrev pub IsDevice : FileKind → Type 0
IsDevice kind = (kind ≡ Null) ⊎ (kind ≡ Device)

-- files of these uses have to be two, and are one. A character device may be one, but as a port
abbrev pub Clash : Access → Access → FileId → FileId → Type 0
Clash one other file_id there =
    Exclude one other × AreOneFile file_id there
    × (IsDevice file_id.kind → (one ≡ Port) ⊎ (other ≡ Port))

-- so it is with what is told of them
abbrev pub IsClashSeen : Access → Access → Option FileId → Option FileId → Type 0
IsClashSeen one other file_id there =
    MatchOption file_id ⊥ (λ p. MatchOption there ⊥ (λ q. Clash one other p q))

-- so it is, or isn't, with what is told where the names of two files lead
abbrev pub IsSeen : Leading → FileUse → FileUse → Bool → Type 0
IsSeen leads one other clash =
    (file_id there : Option FileId) × leads one.name file_id × leads other.name there
    × (IsTrue clash ↔ IsClashSeen one.access other.access file_id there)

-- no two files clash, as far as it is told where their names lead
abbrev pub HaveNoClash : Leading → List FileUse → Type 0
HaveNoClash leads = AllPairs (λ one other. IsSeen leads one other false)

-- no standard stream may lead to a file of this use: to no plain file, nor, but for the null
-- device, to one that is written
abbrev pub IsForbiddenStream : Access → FileKind → Type 0
IsForbiddenStream access kind = (kind ≡ Plain) ⊎ (Exclude access Read × (kind ≢ Null))

-- what is told of a stream and of a file of this use is one such file
abbrev pub IsBarredSeen : Access → Option FileId → Option FileId → Type 0
IsBarredSeen access file_id there =
    MatchOption file_id ⊥
    (λ p. MatchOption there ⊥ (λ q. IsForbiddenStream access p.kind × AreOneFile p q))

-- a file is another than the one at this place, as far as it is told where its name leads; or a
-- stream may lead there
abbrev pub IsOther : Leading → Option FileId → FileUse → Type 0
IsOther leads file_id file =
    (there : Option FileId) × leads file.name there × (IsBarredSeen file.access file_id there → ⊥)

-- the stream of this name is none of these files, but where it may be
abbrev pub IsNoneOf : Leading → List ℕ → List FileUse → Type 0
IsNoneOf leads stream uses =
    (file_id : Option FileId) × leads stream file_id × All (IsOther leads file_id) uses

-- no two of a job's files clash, and standard output and standard error are none of them
pub record AreSeenApart (leads : Leading) (uses : List FileUse) : Type 0 where
  pub pairs : HaveNoClash leads uses
  pub out : IsNoneOf leads (codes "/dev/stdout") uses
  pub err : IsNoneOf leads (codes "/dev/stderr") uses

-- the job reads a file of this name
abbrev pub IsReadOf : Job → List ℕ → Type 0
IsReadOf job = Contains (all_files (files_of job))

-- the job writes its record, or the image that it leaves, to a file of this name
abbrev pub IsWrittenOf : Job → List ℕ → Type 0
IsWrittenOf job name = Contains (file_uses job) (file Write name)

-- the same of a name, where there is one
abbrev pub MayBeWritten : Job → Option Text → Type 0
MayBeWritten job name = IfSome name (IsWrittenOf job)

-- the job tells a client by a file of this name
abbrev pub TellsBy : Job → List ℕ → Type 0
TellsBy job name = Contains (file_uses job) (file Told name)
