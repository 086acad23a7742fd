use Rattle.std.proofs.Common.{◌<◌, ◌∙◌, length, arith}
use Rattle.link_devices.proofs.Outputs.{input_at, input_is}
use Rattle.link_devices.proofs.switch_state.SwitchState.source.Goals as goal

pub returns : goal.returns
returns c =
    let outputs = c.args.self.now.outputs in
    let inside : c.from.result < length outputs = omega (arith, c.in-Some.ensures.0.all_outputs) in
    (c.in-Some.ensures.0, c.if-output-ge-PORTS.false, rw c.from.ensures at (input_is _ _ c.checked_sub.ensures ∙ input_at outputs c.from.result inside))
