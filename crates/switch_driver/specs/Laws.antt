-- What the laws state. No contract of a call cites them.
use Rattle.std.specs.Prelude.{◌≡◌, ◌<◌, ◌+◌, ℕ, List, [], ◌∷◌, ◌++◌, IsTrue}
use Rattle.std.specs.FinMap as map
use Rattle.c004_commands.specs.declared.command.Command.TheVariants.{Settle}
use Rattle.c004_commands.specs.declared.port.TheConstants.{PORTS}
use Rattle.crossbar.specs.Pairs.{switch_of}
use Rattle.crossbar.specs.Switch.{Switch, after_all, answers}
use Rattle.crossbar.specs.declared.chip.Wiring.{Wiring}
use Rattle.crossbar.specs.declared.pair.Pair.{Pair}
use Rattle.switch_settings.specs.Answers.{AllAgree}
use Rattle.switch_settings.specs.Pairs.{all_enquiries}

-- ---- what replies tell

-- a switch joins what another does: it is ready, and each output has the same input, or none
pub record JoinsAs (switch other : Switch) : Type 0 where
  pub ready : IsTrue switch.ready
  pub feeds :
      (output : ℕ) → output < PORTS
      → map.get switch.sources output ≡ map.get other.sources output

-- A switch whose answers agree with pairs joins just what these call for, once it was sent the end
-- of the sequence after its answers.
abbrev pub RepliesTell : Type 0
RepliesTell =
    (wiring : Wiring) (pairs : List Pair) (switch : Switch) (replies : List ℕ)
    → replies ≡ answers all_enquiries switch → AllAgree (switch_of wiring pairs) replies
    → JoinsAs (after_all (all_enquiries ++ Settle ∷ []) switch) (switch_of wiring pairs)
