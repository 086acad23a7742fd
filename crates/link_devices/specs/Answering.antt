-- What a switch makes of the bytes that it is handed.
-- Source: INMOS IMS C004 data sheet. That a byte which can't stand where it comes drops the command
-- that was begun is this project's choice.
use Rattle.std.specs.Prelude.{◌≡◌, ◌+◌, ℕ, List, [], ◌∷◌, ◌++◌, length, Option, Result, Ok, Err}
use Rattle.std.specs.Io.KnownBytes.{Appends, Consumes, IsAtEnd}
use Rattle.byte_streams.specs.Writing.{IsCutShort}
use Rattle.c004_commands.specs.Faults.{IsFault}
use Rattle.c004_commands.specs.declared.reader.CommandFault.{CommandFault}
use Rattle.link_devices.specs.declared.answering.EndFault.{EndFault}
use Rattle.link_devices.specs.declared.answering.EndFault.TheVariants.{Read, Write}
use Rattle.link_devices.specs.End.{EndState, HasTaken}
use Rattle.link_devices.specs.Told.{fault_line}

-- A byte at this place was handed to the end, which gave this reply, and this was told. Either the
-- byte was taken, or it can't stand where it came: then nothing changes but that the command which
-- was begun is dropped, and as much of a line as could be written was told.
pub data Handles (place : ℕ) (old : EndState) (byte : ℕ) : List ℕ → List ℕ → EndState
    → Type 0 where
  takes : (reply : List ℕ) (new : EndState) → HasTaken old byte reply new
      → Handles place old byte reply [] new
  refuses : (fault : CommandFault) (told rest : List ℕ) (new : EndState)
      → IsFault old.begun byte fault
      → fault_line place fault ≡ told ++ rest
      → new ≡ record { switch = old.switch; begun = [] }
      → Handles place old byte [] told new

-- the end was handed these bytes, one after another, gave these replies, and this was told
pub data HasRun (old : EndState) : List ℕ → List ℕ → List ℕ → EndState → Type 0 where
  begins : HasRun old [] [] [] old
  goes_on : (bytes replies told : List ℕ) (byte : ℕ) (reply more : List ℕ) (mid new : EndState)
      → HasRun old bytes replies told mid
      → Handles (length bytes + 1) mid byte reply more new
      → HasRun old (bytes ++ byte ∷ []) (replies ++ reply) (told ++ more) new

-- ---- one byte, and the writers of replies and of what is told

-- its reply was written, and what is told of it
pub record HasHandled (place byte : ℕ) (out_before out_after err_before err_after : Option (List ℕ))
    (old new : EndState) : Type 0 where
  pub reply : List ℕ
  pub told : List ℕ
  pub handles : Handles place old byte reply told new
  pub written : Appends out_before out_after reply
  pub beside : Appends err_before err_after told

-- its reply couldn't be written, or that the writer be flushed; nothing was told
pub record IsReplyCut (place byte : ℕ) (out_before out_after err_before err_after : Option (List ℕ))
    (old new : EndState) : Type 0 where
  pub reply : List ℕ
  pub handles : Handles place old byte reply [] new
  pub cut : IsCutShort out_before out_after reply
  pub beside : err_after ≡ err_before

-- ---- all bytes

-- what came was handed to the end, all its replies were written, and what is told of it
pub record HasAnsweredAll
    (input_before input_after out_before out_after err_before err_after : Option (List ℕ))
    (old new : EndState) : Type 0 where
  pub came : List ℕ
  pub replies : List ℕ
  pub told : List ℕ
  pub read : Consumes input_before input_after came
  pub ran : HasRun old came replies told new
  pub written : Appends out_before out_after replies
  pub beside : Appends err_before err_after told

-- the same, but that the last reply couldn't be written
pub record HasAnsweredButLast
    (input_before input_after out_before out_after err_before err_after : Option (List ℕ))
    (old new : EndState) : Type 0 where
  pub before : EndState
  pub mid : Option (List ℕ)
  pub wrote : Option (List ℕ)
  pub tells : Option (List ℕ)
  pub byte : ℕ
  pub answered : HasAnsweredAll input_before mid out_before wrote err_before tells old before
  pub read : Consumes mid input_after (byte ∷ [])
  pub cut : IsReplyCut (length answered.came + 1) byte wrote out_after tells err_after before new

-- to the end of the input, or as far as it could be read, or up to a reply that can't be written
abbrev pub HasAnsweredInput : Result Unit EndFault → Option (List ℕ) → Option (List ℕ)
    → Option (List ℕ) → Option (List ℕ) → Option (List ℕ) → Option (List ℕ) → EndState → EndState
    → Type 0
HasAnsweredInput (Ok _) input_before input_after out_before out_after err_before err_after old new =
    HasAnsweredAll input_before input_after out_before out_after err_before err_after old new
    × IsAtEnd input_after
HasAnsweredInput (Err (Read _)) input_before input_after out_before out_after err_before err_after
    old new =
    HasAnsweredAll input_before input_after out_before out_after err_before err_after old new
HasAnsweredInput (Err (Write _)) input_before input_after out_before out_after err_before err_after
    old new =
    HasAnsweredButLast input_before input_after out_before out_after err_before err_after old new
