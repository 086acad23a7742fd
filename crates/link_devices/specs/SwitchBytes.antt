-- The byte of an output.
use Rattle.std.specs.Prelude.{ℕ, ◌+◌, ◌-◌, ◌==◌, ◌&&◌, ◌||◌, Bool, Option, Some, None, nat_le}
use Rattle.std.specs.Prelude.{nat_lt, if◌then◌else◌}
use Rattle.c004_commands.specs.declared.port.TheConstants.{PORTS}
use Rattle.c004_commands.specs.declared.answer.TheConstants.{CONNECTED}

-- whether an output can answer so: 0, or an input with the top bit 1
abbrev pub is_answer : ℕ → Bool
is_answer byte = (byte == 0) || (nat_le CONNECTED byte && nat_lt byte (CONNECTED + PORTS))

-- the input that feeds an output which answers so
abbrev pub input_of : ℕ → Option ℕ
input_of byte = if nat_lt byte CONNECTED then None else Some (byte - CONNECTED)
