use Rattle.std.proofs.Common.{◌<◌, length, arith}
use Rattle.link_devices.proofs.Outputs.{answer_at}
use Rattle.link_devices.proofs.switch_state.SwitchState.apply.Goals as goal

pub returns-in-Enquire-clause-answer : goal.returns-in-Enquire-clause-answer
returns-in-Enquire-clause-answer c =
    let inside : c.from.result < length c.args.self.now.outputs = omega (arith, c.requires.all_outputs) in
    let told = answer_at c.args.self.now.outputs c.from.result c.requires.answers inside in
    rw c.in-Enquire.is (cc)
