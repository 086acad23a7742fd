use Rattle.std.proofs.Common.{◌≡◌, ◌≤◌, ◌+◌, ◌∷◌, [], ◌++◌, length, take, arith, sym, ◌∙◌, set, length-set, length-append, length-take-le, subst}
use Rattle.std.proofs.lemmas.List.{take_more_set}
use Rattle.std.proofs.lemmas.Grind.{common_steps}
use Rattle.c004_commands.specs.Commands.{IsCommandFront}
use Rattle.link_devices.proofs.Begun.{front_fits}
use Rattle.link_devices.proofs.switch_state.SwitchState.keep.Goals as goal

pub returns : goal.returns
returns c =
    let s = c.args.self.now in
    let was = c.requires.state in
    let count : length (take s.begun_count s.begun) ≡ s.begun_count = length-take-le s.begun_count s.begun (omega (arith, was.room, was.behind.most)) in
    let low : s.begun_count + 1 ≤ 2 = omega (arith, front_fits _ c.requires.partial, length-append (take s.begun_count s.begun) (c.args.byte ∷ [])) in
    let begun : take (s.begun_count + 1) (set s.begun c.from.result c.args.byte) ≡ take s.begun_count s.begun ++ c.args.byte ∷ [] =
    rw c.from.ensures (take_more_set s.begun s.begun_count c.args.byte (omega (arith, was.room))) in
    record {
      state = record {
        all_outputs = was.all_outputs;
        answers = was.answers;
        room = length-set s.begun c.from.result c.args.byte ∙ was.room;
        begun = subst IsCommandFront (sym begun) c.requires.partial;
        behind = record { most = low; zeros = λ k from below. grind (arith, common_steps, was.behind.zeros k) };
        connecting = was.connecting;
      };
      kept = rw begun (cc);
    }
