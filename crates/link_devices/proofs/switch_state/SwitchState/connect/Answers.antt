use Rattle.std.proofs.Common.{◌<◌, length, arith}
use Rattle.link_devices.proofs.Outputs.{with_output, is_connected, sources-connected}
use Rattle.link_devices.proofs.switch_state.SwitchState.connect.Goals as goal

pub returns-clause-state : goal.returns-clause-state
returns-clause-state c =
    with_output c.args.self.now c.from.result _ 1 c.requires (is_connected c.get.result c.get.ensures.range) (omega arith)

pub returns-clause-switch : goal.returns-clause-switch
returns-clause-switch c =
    let inside : c.from.result < length c.args.self.now.outputs = omega (arith, c.requires.all_outputs) in
    rw (sources-connected c.args.self.now.outputs c.from.result c.get.result inside) (cc)
