-- The switches of a rack. That a rack may have two, and what each of them carries, is this
-- project's choice.
use Rattle.std.specs.Prelude.{◌≡◌, ℕ, List, refl}
use Rattle.std.specs.Coded.{Coded, code_by, coded×}
use Rattle.c004_commands.specs.Commands.{text, AreCommands, Spells}
use Rattle.c004_commands.specs.declared.command.Command.{Command}
use Rattle.crossbar.specs.Switch.{Switch, switch_code, after_all, answers, idle}
use Rattle.crossbar.specs.declared.chip.Chip.{Chip}
use Rattle.crossbar.specs.declared.chip.Chip.TheVariants.{A, B}

-- the switches of a rack: one that has a single switch uses the first alone
pub record Switches : Type 0 where
  pub a : Switch
  pub b : Switch

-- both as after a reset
abbrev pub both_idle : Switches
both_idle = record { a = idle; b = idle }

-- the switch of a chip
abbrev pub switch_at : Chip → Switches → Switch
switch_at A s = s.a
switch_at B s = s.b

-- the switches where that of a chip has become another
abbrev pub put_switch : Chip → Switch → Switches → Switches
put_switch A switch s = record { a = switch; b = s.b }
put_switch B switch s = record { a = s.a; b = switch }

-- The commands that the bytes spell were carried out at the chip, in order, and answered. The other
-- chip is as it was.
abbrev pub CarriesOutAt : Chip → List ℕ → Switches → Switches → List ℕ → Type 0
CarriesOutAt chip bytes old new replies =
    (commands : List Command) → AreCommands commands → bytes ≡ text commands
    → (new ≡ put_switch chip (after_all commands (switch_at chip old)) old)
    × (replies ≡ answers commands (switch_at chip old))

-- the commands that are whole within the bytes were carried out at the chip, in order, and the
-- other chip is as it was
abbrev pub CarriesOutWholeAt : Chip → List ℕ → Switches → Switches → Type 0
CarriesOutWholeAt chip bytes old new =
    (commands : List Command) (rest : List ℕ) → Spells bytes commands rest
    → new ≡ put_switch chip (after_all commands (switch_at chip old)) old

-- switches are stored as the two
abbrev pub switches_code : Coded Switches
switches_code =
    code_by (Switch × Switch) (coded× switch_code switch_code) (λ s. (s.a, s.b))
    (λ p. record { a = p.0; b = p.1 }) (λ _. refl)
