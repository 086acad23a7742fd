use Rattle.std.proofs.Common.{refl, arith}
use Rattle.std.proofs.lemmas.List.{get_or-replicate}
use Rattle.crossbar.proofs.Carrying.{nothing_come}
use Rattle.link_devices.proofs.switch_state.SwitchState.reset.Goals as goal

pub returns-clause-state : goal.returns-clause-state
returns-clause-state c = record {
  all_outputs = refl;
  answers = refl;
  room = refl;
  begun = nothing_come;
  behind = record { most = omega arith; zeros = λ k from below. get_or-replicate 2 k 0 0 below };
  connecting = omega arith;
}
