-- How a record is read from the left.
use Rattle.std.specs.Prelude.{◌≡◌, ◌≢◌, ℕ, zero, suc, ◌+◌, ◌<◌, ◌==◌, List, ◌++◌, drop, length}
use Rattle.std.specs.Prelude.{position, Option, Some, None}
use Rattle.batch.specs.Batches.{IsBatch}
use Rattle.batch.specs.Text.{IsNumber, number, batch_text, space, line_feed}
use Rattle.batch.specs.declared.transfer.Transfer.{Transfer}
use Rattle.batch_book.specs.declared.recorded_call.RecordedCall.TheVariants as recorded_call
use Rattle.batch_book.specs.Told.{PlanlessCall}
use Rattle.client_session.specs.declared.command.SessionCommand.{SessionCommand}
use Rattle.client_session.specs.declared.command.SessionCommand.TheVariants as command
use Rattle.book_record.specs.RecordText.{call_line, call_text, CanSay}

-- ---- lines

-- what follows the line that ends there, where one does
abbrev pub after_end : List ℕ → Option ℕ → Option (List ℕ)
after_end text None = None
after_end text (Some end) = Some (drop (end + 1) text)

-- what follows the first line
abbrev pub after_line : List ℕ → Option (List ℕ)
after_line text = after_end text (position (λ b. b == line_feed) text)

-- what follows the first n lines
abbrev pub after_lines : ℕ → Option (List ℕ) → Option (List ℕ)
after_lines zero text = text
after_lines (suc n) None = None
after_lines (suc n) (Some text) = after_lines n (after_line text)

-- ---- what isn't there

-- the command that makes the call, where one makes just this call
abbrev pub command_for : PlanlessCall → Option SessionCommand
command_for (recorded_call.Run id) = Some (command.Run id)
command_for (recorded_call.Show id) = Some (command.Show id)
command_for (recorded_call.Discard id) = Some (command.Drop id)
command_for (recorded_call.Peek «module» address) = Some (command.Peek «module» address)
command_for (recorded_call.Poke «module» address word) = Some (command.Poke «module» address word)
command_for call = None

-- a call of one line, which is this
abbrev pub IsCallOf : List ℕ → PlanlessCall → Type 0
IsCallOf line (recorded_call.Submit batch) = ⊥
IsCallOf line call = CanSay call × (line ≡ call_line call)

-- the text begins with no batch of this many transfers
abbrev pub BeginsWithNoBatch : List ℕ → ℕ → Type 0
BeginsWithNoBatch text count =
    (batch : List Transfer) (rest : List ℕ) → IsBatch batch → length batch ≡ count
    → text ≢ batch_text batch ++ rest

-- the text begins with the lines of no call
abbrev pub BeginsWithNoCall : List ℕ → Type 0
BeginsWithNoCall text =
    (call : PlanlessCall) (rest : List ℕ) → CanSay call → text ≢ call_text call ++ rest

-- the text begins with no call by a session whose number is below this
abbrev pub BeginsWithNoEntry : ℕ → List ℕ → Type 0
BeginsWithNoEntry limit text =
    (session : ℕ) (call : PlanlessCall) (rest : List ℕ) → IsNumber session → session < limit
    → CanSay call → text ≢ number session space ++ (call_text call ++ rest)
