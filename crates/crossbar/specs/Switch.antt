-- The switch of an IMS C004: which input feeds each output, and whether it is ready to accept data.
-- Source: INMOS IMS C004 data sheet, the effects of its configuration messages. Where the sheet is
-- silent the choice is this project's: a new connection replaces the one that the output had, both
-- links of a command may be one link, only `Connect` and `Join` make the switch unready, and a new
-- switch is as after a reset.
use Rattle.std.specs.Prelude.{ℕ, Bool, true, false, List, [], ◌∷◌, ◌++◌, ◌+◌, refl, Option, Some}
use Rattle.std.specs.Prelude.{None}
use Rattle.std.specs.Option.{option_to_list}
use Rattle.std.specs.Ordering.{nat_cmp}
use Rattle.std.specs.FinMap as map
use Rattle.std.specs.Coded.{Coded, code_by, coded×, coded_ℕ, coded_bool}
use Rattle.c004_commands.specs.Answers.{answer_byte}
use Rattle.c004_commands.specs.declared.command.Command.{Command}
use Rattle.c004_commands.specs.declared.command.Command.TheVariants.{Connect, Join, Enquire, Settle}
use Rattle.c004_commands.specs.declared.command.Command.TheVariants.{Reset, Cut, CutPair}

-- from outputs to the inputs that feed them: an output that it lacks is disconnected
abbrev pub Sources : Type 0
Sources = map.FinMap nat_cmp ℕ

pub record Switch : Type 0 where
  pub sources : Sources
  pub ready : Bool

-- all outputs disconnected, and ready
abbrev pub idle : Switch
idle = record { sources = map.empty; ready = true }

-- the switch after a command
abbrev pub after : Command → Switch → Switch
after (Connect input output) s =
    record { sources = map.insert s.sources output input; ready = false }
after (Join link1 link2) s =
    record { sources = map.insert (map.insert s.sources link2 link1) link1 link2; ready = false }
after (Enquire output) s = s
after Settle s = record s { ready = true }
after Reset s = idle
after (Cut output) s = record s { sources = map.remove s.sources output }
after (CutPair link1 link2) s = record s { sources = map.remove (map.remove s.sources link1) link2 }

-- the byte that a command is answered: only an enquiry is
abbrev pub answer : Command → Switch → Option ℕ
answer (Enquire output) s = Some (answer_byte (map.get s.sources output))
answer _ s = None

-- the switch after commands, in order
abbrev pub after_all : List Command → Switch → Switch
after_all [] s = s
after_all (command ∷ commands) s = after_all commands (after command s)

-- the bytes that commands are answered, in order
abbrev pub answers : List Command → Switch → List ℕ
answers [] s = []
answers (command ∷ commands) s =
    option_to_list (answer command s) ++ answers commands (after command s)

-- how many of the commands are enquiries
abbrev pub enquiries : List Command → ℕ
enquiries [] = 0
enquiries (Enquire output ∷ commands) = 1 + enquiries commands
enquiries (_ ∷ commands) = enquiries commands

-- a switch is stored as its two fields
abbrev pub switch_code : Coded Switch
switch_code =
    code_by (Sources × Bool) (coded× (map.code coded_ℕ coded_ℕ) coded_bool)
    (λ s. (s.sources, s.ready)) (λ p. record { sources = p.0; ready = p.1 }) (λ _. refl)
