-- What is told beside an answer, or where there is none.
use Rattle.std.specs.Prelude.{◌≡◌, ◌≢◌, ◌⊎◌, ◌++◌, ⊤, ℕ, Bool, false, List, [], ◌∷◌, Option, None}
use Rattle.std.specs.Prelude.{Some, IfSome, codes, option_map, string_bytes}
use Rattle.std.specs.Io.KnownBytes.{Appends}
use Rattle.plan_answers.specs.Refusals.{Printed}
use Rattle.plan_answers.specs.declared.limits.TheConstants.{REFUSED}
use Rattle.refusals.specs.declared.refusal.Refusal.{Refusal}
use Rattle.refusals.specs.Refusals.{refusal_line}
pub use Rattle.refusal_notes.specs.Told.{IsWholeLine}
use Rattle.named_files.specs.declared.notes.JobFailure.{JobFailure}
use Rattle.named_files.specs.declared.notes.JobFailure.TheVariants.{File, NoMemory, Output}
use Rattle.named_files.specs.declared.notes.JobFailure.TheVariants.{OutputFailure}
use Rattle.refusals.specs.declared.refusal.Refusal.TheVariants as refusal

-- this line says a refusal, which isn't want of memory
abbrev pub SaysRefusal : List ℕ → Type 0
SaysRefusal line = (why : Refusal) × (why ≢ refusal.NoMemory) × (line ≡ refusal_line why)

-- it says that a drive stopped
abbrev pub SaysStop : List ℕ → Type 0
SaysStop line = (words : List ℕ) × (line ≡ codes "stopped " ++ words)

-- the line is told of an answer: of a refusal, or where a drive stopped, and of nothing else
pub record HasSecondLine (printed : Printed) (line : List ℕ) : Type 0 where
  pub refused : printed.status ≡ REFUSED
  pub of : SaysRefusal printed.text ⊎ SaysStop printed.text
  pub whole : IsWholeLine line

-- what is told of what is printed, if anything is
abbrev pub IsNoteOn : Printed → Option (List ℕ) → Type 0
IsNoteOn printed note = IfSome note (HasSecondLine printed)

-- as much of the line as could be written stands after what was there
abbrev pub IsToldInPart : Option (List ℕ) → Option (List ℕ) → List ℕ → Type 0
IsToldInPart before after line =
    (told rest : List ℕ) × (line ≡ told ++ rest) × Appends before after told

-- what was told of a note: nothing where there is none, or none is wanted
abbrev pub IsToldUnless : Bool → Option (List ℕ) → Option (List ℕ) → Option (List ℕ) → Type 0
IsToldUnless quiet note before after =
    Appends before after []
    ⊎ ((quiet ≡ false) × (line : List ℕ) × (note ≡ Some line) × IsToldInPart before after line)

-- whole lines were told, one after another, each as far as it could be written
abbrev pub AreToldLines : Option (List ℕ) → Option (List ℕ) → List (List ℕ) → Type 0
AreToldLines before after [] = after ≡ before
AreToldLines before after (line ∷ lines) =
    (mid : Option (List ℕ)) × IsWholeLine line × IsToldInPart before mid line
    × AreToldLines mid after lines

-- such lines were told, unless none are wanted
abbrev pub HasToldLines : Bool → Option (List ℕ) → Option (List ℕ) → Type 0
HasToldLines quiet before after =
    (after ≡ before)
    ⊎ ((quiet ≡ false) × ((lines : List (List ℕ)) × AreToldLines before after lines))

-- which refusal is printed where there is no answer, if anything can be printed
abbrev pub refusal_of : JobFailure → Option Refusal
refusal_of (File _) = Some refusal.File
refusal_of NoMemory = Some refusal.NoMemory
refusal_of missed = None

-- what is printed then
abbrev pub unanswered : Refusal → Printed
unanswered why = record { text = refusal_line why; status = REFUSED }

-- where there is no answer, this is printed
abbrev pub GivesUp : Printed → Type 0
GivesUp printed = (printed ≡ unanswered refusal.File) ⊎ (printed ≡ unanswered refusal.NoMemory)

-- what is told beside it
abbrev pub note_of : JobFailure → Option (List ℕ)
note_of (File note) = option_map (λ line. string_bytes line) note
note_of (Output note) = option_map (λ line. string_bytes line) note
note_of missed = None

-- it is refused, with what is told of that
abbrev pub IsRefused : JobFailure → Type 0
IsRefused (File note) = IfSome note (λ line. IsWholeLine (string_bytes line))
IsRefused (Output note) = IfSome note (λ line. IsWholeLine (string_bytes line))
IsRefused NoMemory = ⊤
IsRefused (OutputFailure what) = ⊥

-- the same, or something couldn't be written, which is told otherwise
abbrev pub IsNoAnswer : JobFailure → Type 0
IsNoAnswer (OutputFailure what) = ⊤
IsNoAnswer missed = IsRefused missed
