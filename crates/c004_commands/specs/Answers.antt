-- The byte that answers an enquiry. By the INMOS IMS C004 data sheet it has the input, and its top
-- bit says whether the output is connected. Where the sheet is terse the choice is this project's:
-- a disconnected output is answered 0, bits 5 and 6 of an answer are 0, and of a byte whose top bit
-- is 0 nothing else is read.
use Rattle.std.specs.Prelude.{◌≡◌, ◌<◌, ◌+◌, ℕ, Option, Some, None}
use Rattle.c004_commands.specs.declared.port.TheConstants.{PORTS}
use Rattle.c004_commands.specs.declared.answer.TheConstants.{CONNECTED}
use Rattle.c004_commands.specs.declared.answer.OutputState.{OutputState}
use Rattle.c004_commands.specs.declared.answer.OutputState.TheVariants.{Connected, Loose}

-- what a switch answers of an output: the input that feeds it, with the top bit 1, or 0 where none
-- does
abbrev pub answer_byte : Option ℕ → ℕ
answer_byte (Some input) = CONNECTED + input
answer_byte None = 0

-- how an answer is read: the top bit 1 and an input below it, or the top bit 0
abbrev pub IsAnswer : OutputState → ℕ → Type 0
IsAnswer (Connected input) byte = (byte ≡ answer_byte (Some input)) × (input < PORTS)
IsAnswer Loose byte = byte < CONNECTED
