use Rattle.std.proofs.Common.{◌<◌, length, arith, refl}
use Rattle.link_devices.proofs.Outputs.{with_output, sources-loose}
use Rattle.link_devices.proofs.switch_state.SwitchState.disconnect.Goals as goal

pub returns-clause-state : goal.returns-clause-state
returns-clause-state c =
    with_output c.args.self.now c.from.result 0 c.args.self.now.connecting c.requires refl c.requires.connecting

pub returns-clause-switch : goal.returns-clause-switch
returns-clause-switch c =
    let inside : c.from.result < length c.args.self.now.outputs = omega (arith, c.requires.all_outputs) in
    rw (sources-loose c.args.self.now.outputs c.from.result inside) (cc)
