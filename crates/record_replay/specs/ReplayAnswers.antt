-- What `replay` answers.
use Rattle.std.specs.Prelude.{◌≡◌, ◌⊎◌, ℕ, ◌+◌, ◌-◌, List, ◌++◌, length, Option, Some, None}
use Rattle.std.specs.Prelude.{option_map}
use Rattle.batch.specs.ShapeView.{ShapeView, IsShape}
use Rattle.batch.specs.ShapeText.{shape_text}
use Rattle.line_words.specs.HexWords.{IsWord}
use Rattle.module_memory.specs.Images.{image_of}
use Rattle.module_memory.specs.Store.{Store}
use Rattle.batch_book.specs.declared.entry.Entry.{Entry}
use Rattle.batch_book.specs.Machine.{Machine}
use Rattle.book_record.specs.Fronts.{IsTorn, last_lines}
use Rattle.book_record.specs.Sums.{adler}
use Rattle.book_record.specs.Heads.{AreNames, BeginsWithNoHead, IsHeadOf, head_of, rack_line}
use Rattle.book_record.specs.Heads.{session_limit}
use Rattle.record_replay.specs.declared.fault.RecordError.{RecordError}
use Rattle.record_replay.specs.declared.fault.RecordFault.{RecordFault}
use Rattle.record_replay.specs.declared.fault.RecordFault.TheVariants as record_fault
use Rattle.record_replay.specs.Replays.{AreFewer, IsRecordError, IsRemade}
use Rattle.rack_answers.specs.Openings.{IsRackOf, IsWrongRack}
use Rattle.refusals.specs.declared.refusal.Refusal.{Refusal}
use Rattle.refusals.specs.declared.refusal.Refusal.TheVariants as refusal
use Rattle.plan_answers.specs.declared.limits.TheConstants.{DONE}
use Rattle.plan_answers.specs.Refusals.{Printed, Refuses}
use Rattle.record_replay.specs.declared.answering.Replayed.{Replayed}
use Rattle.record_replay.specs.declared.answering.Torn.{Torn}

-- ---- the rack

-- the record begins with the head of some rack, which has this shape
pub record HasHead (recorded : List ℕ) : Type 0 where
  pub shape : ShapeView
  pub sum : ℕ
  pub names : List (List ℕ)
  pub body : List ℕ
  pub allowed : IsShape shape
  pub word : IsWord sum
  pub are : AreNames names (length names)
  pub head : recorded ≡ head_of shape sum names ++ body

-- the text of the shape that is given, or else of that in the record's head
abbrev pub IsShapeOf : Option (List ℕ) → List ℕ → List ℕ → Type 0
IsShapeOf (Some shape) recorded text = text ≡ shape
IsShapeOf None recorded text = (h : HasHead recorded) × (text ≡ shape_text h.shape)

-- The record is one on a rack that begins with this store, and this follows its head, which says
-- that the numbers of its sessions are below this.
pub record IsRecordOn (opening : Store) (recorded body : List ℕ) (limit : ℕ) : Type 0 where
  pub names : List (List ℕ)
  pub are : AreNames names (length names)
  pub limited : limit ≡ session_limit (length names)
  pub head : IsHeadOf opening names recorded body

-- it is none
abbrev pub IsNoRecordOn : Store → List ℕ → Type 0
IsNoRecordOn opening recorded =
    (body : List ℕ) (limit : ℕ) → IsRecordOn opening recorded body limit → ⊥

-- ---- the entries

-- the refusal of what is wrong with a record
abbrev pub of_record : RecordFault → Refusal
of_record record_fault.Head = refusal.RecordHead
of_record (record_fault.Sum e) = refusal.RecordSum e
of_record (record_fault.Call e) = refusal.RecordCall e
of_record (record_fault.Reply e) = refusal.RecordReply e
of_record record_fault.More = refusal.RecordMore
of_record record_fault.NoMemory = refusal.NoMemory

-- what is reported of a record that was torn off: after how many entries, and where; nothing, where
-- it ends by its last lines, or has all entries that are wanted
abbrev pub IsTornSo : List ℕ → Option ℕ → ℕ → List ℕ → Option Torn → Type 0
IsTornSo recorded first entries rest None = (first ≡ Some entries) ⊎ (rest ≡ last_lines entries)
IsTornSo recorded first entries rest (Some torn) =
    AreFewer entries first × IsTorn rest × (torn.entries ≡ entries)
    × (torn.offset ≡ length recorded - length rest)

-- the error in what follows the head, as one of the whole record
pub record IsAfterHead (head : ℕ) (error told : RecordError) : Type 0 where
  pub fault : told.fault ≡ error.fault
  pub offset : told.offset ≡ head + error.offset
  pub due : option_map (λ line. line.items) told.due
      ≡ option_map (λ line. line.items) error.due

-- The image to which the entries lead, or the refusal of what is first wrong with them, with its
-- place and the line that is due there.
pub data IsRecordAnswer (opening : Store) (recorded body : List ℕ) (limit : ℕ) (first : Option ℕ)
    (replayed : Replayed) : Type 0 where
  led : (es : List Entry) (end : Machine) (rest : List ℕ)
      → IsRemade limit body opening first es end rest
      → replayed.answer.text ≡ image_of end.store → replayed.answer.status ≡ DONE
      → replayed.error ≡ None → IsTornSo recorded first (length es) rest replayed.torn
      → IsRecordAnswer opening recorded body limit first replayed
  record_wrong : (error said : RecordError) → IsRecordError limit body opening first error
      → IsAfterHead (length recorded - length body) error said
      → Refuses (of_record error.fault) replayed.answer → replayed.error ≡ Some said
      → replayed.torn ≡ None → IsRecordAnswer opening recorded body limit first replayed

-- ---- the answer

-- Where a record begins with a head, this is the first line that the head of one on a rack that
-- begins with this store has, by as many clients. Where it begins with none, no line is due.
abbrev pub IsHeadDue : Store → List ℕ → Option (List ℕ) → Type 0
IsHeadDue opening recorded None = BeginsWithNoHead recorded
IsHeadDue opening recorded (Some line) =
    (h : HasHead recorded)
    × (line ≡ rack_line opening.shape (adler (image_of opening)) (length h.names))

-- the record's head is refused, at its beginning, and this line is due there
pub record RefusesHead (due : Option (List ℕ)) (printed : Printed) (told : Option RecordError)
    (torn : Option Torn) : Type 0 where
  pub error : RecordError
  pub fault : error.fault ≡ record_fault.Head
  pub offset : error.offset ≡ 0
  pub due_is : option_map (λ line. line.items) error.due ≡ due
  pub refuses : Refuses refusal.RecordHead printed
  pub told_so : told ≡ Some error
  pub untorn : torn ≡ None

-- The answer on the rack of the shape and the image, where the record's head is that of this rack;
-- or the refusal of what is first wrong: the record has no head that says the shape, the shape or
-- the image, or the head.
pub data IsReplayAnswer (shape : Option (List ℕ)) (recorded : List ℕ) (image : Option (List ℕ))
    (first : Option ℕ) (printed : Printed) (told : Option RecordError)
    (torn : Option Torn) : Type 0 where
  replayed : (text body : List ℕ) (opening : Store) (limit : ℕ) → IsShapeOf shape recorded text
      → IsRackOf text image opening → IsRecordOn opening recorded body limit
      → IsRecordAnswer opening recorded body limit first
      (record { answer = printed; error = told; torn = torn })
      → IsReplayAnswer shape recorded image first printed told torn
  no_head : shape ≡ None → BeginsWithNoHead recorded → RefusesHead None printed told torn
      → IsReplayAnswer shape recorded image first printed told torn
  rack_wrong : (text : List ℕ) (refusal : Refusal) → IsShapeOf shape recorded text
      → IsWrongRack text image refusal → Refuses refusal printed → told ≡ None → torn ≡ None
      → IsReplayAnswer shape recorded image first printed told torn
  other_head : (text : List ℕ) (opening : Store) (due : Option (List ℕ))
      → IsShapeOf shape recorded text → IsRackOf text image opening
      → IsNoRecordOn opening recorded → IsHeadDue opening recorded due
      → RefusesHead due printed told torn
      → IsReplayAnswer shape recorded image first printed told torn

-- that answer, whatever is reported beside it
abbrev pub IsReplayPrinted : Option (List ℕ) → List ℕ → Option (List ℕ) → Option ℕ → Printed
    → Type 0
IsReplayPrinted shape recorded image first printed =
    (told : Option RecordError) × (torn : Option Torn)
    × IsReplayAnswer shape recorded image first printed told torn
