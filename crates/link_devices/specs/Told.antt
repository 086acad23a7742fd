-- What is told of a byte that can't stand where it came. The texts are this project's choice.
use Rattle.std.specs.Prelude.{ℕ, List, ◌++◌, codes}
use Rattle.std.specs.Fmt.{decimal}
use Rattle.line_words.specs.HexWords.{hex2}
use Rattle.c004_commands.specs.declared.reader.CommandFault.{CommandFault}
use Rattle.c004_commands.specs.declared.reader.CommandFault.TheVariants.{UnknownCommand, BadPort}

-- `byte N is XX`, after the program's name and that of what is read
abbrev pub byte_words : ℕ → ℕ → List ℕ
byte_words place byte =
    codes "exchange: standard input: byte " ++ decimal place ++ codes " is " ++ hex2 byte

-- the line of a byte at this place of the input, of which the first is 1
abbrev pub fault_line : ℕ → CommandFault → List ℕ
fault_line place (UnknownCommand byte) =
    byte_words place byte ++ codes "; commands begin with 00 to 06\n"
fault_line place (BadPort byte) =
    byte_words place byte ++ codes "; ports are 00 to 1f, and the command is dropped\n"
