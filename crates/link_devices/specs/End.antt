-- The switch's end of a configuration link.
-- Source: INMOS IMS C004 data sheet.
use Rattle.std.specs.Prelude.{◌≡◌, ℕ, List, Option, refl}
use Rattle.std.specs.Coded.{Coded, code_by, coded×, coded_ℕ, coded_list}
use Rattle.std.specs.Option.{option_to_list}
use Rattle.c004_commands.specs.Reader.{GoesOn}
use Rattle.c004_commands.specs.declared.command.Command.{Command}
use Rattle.crossbar.specs.Switch.{Switch, switch_code, after_all, answers}

pub record EndState : Type 0 where
  pub switch : Switch
  -- the bytes of the command that isn't whole yet
  pub begun : List ℕ

-- The byte may end a command. That was carried out, and answered, and the text goes on with it.
pub record HasTaken (old : EndState) (byte : ℕ) (reply : List ℕ) (new : EndState) : Type 0 where
  pub given : Option Command
  pub goes_on : GoesOn old.begun byte given new.begun
  pub switch : new.switch ≡ after_all (option_to_list given) old.switch
  pub answered : reply ≡ answers (option_to_list given) old.switch

-- an end is stored as its two fields
abbrev pub end_code : Coded EndState
end_code =
    code_by (Switch × List ℕ) (coded× switch_code (coded_list coded_ℕ)) (λ e. (e.switch, e.begun))
    (λ p. record { switch = p.0; begun = p.1 }) (λ _. refl)
