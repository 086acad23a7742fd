use Rattle.std.proofs.Common.{◌≡◌, ℕ, List, Option, Some, None, MatchOption, arith, sym}
use Rattle.c004_commands.specs.Commands.{IsCommandFront}
use Rattle.link_devices.specs.declared.switch_state.SwitchState.{SwitchState}
use Rattle.link_devices.specs.SwitchStates.{IsSwitchState, command_begun}
use Rattle.link_devices.proofs.switch_state.SwitchState.reader.Goals as goal

read : (s : SwitchState) (o : Option (List ℕ)) → (IsCommandFront (command_begun s) → IsSwitchState s) → MatchOption o (IsCommandFront (command_begun s) → ⊥)
    (λ r. IsCommandFront (command_begun s) × (r ≡ command_begun s)) → MatchOption o (IsSwitchState s → ⊥) (λ r. IsSwitchState s × (r ≡ command_begun s))
read s None made m = λ h. m h.begun
read s (Some r) made m = (made m.0, m.1)

pub returns : goal.returns
returns c =
    read c.args.self.now c.reader_of.result (λ front. record {
      all_outputs = omega arith;
      answers = sym c.if-not-are_answers.ensures;
      room = omega arith;
      begun = front;
      behind = c.has_zeros_after.ensures.0 c.if-not-has_zeros_after.false;
      connecting = c.if-self-gt1.false;
    }) (rw c.from.ensures at c.reader_of.ensures)
