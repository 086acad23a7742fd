use Rattle.std.proofs.Common.{arith}
use Rattle.std.proofs.lemmas.Grind.{common_steps}
use Rattle.switch_settings.proofs.PairCommands.{setting_bytes_fit, change_bytes_fit}
use Rattle.rack_answers.proofs.switching.push_line.Goals as goal

pub bytes_for-number-requires-clause-setting_room : goal.bytes_for-number-requires-clause-setting_room
bytes_for-number-requires-clause-setting_room c = setting_bytes_fit c.args.wiring

pub bytes_for-number-requires-clause-change_room : goal.bytes_for-number-requires-clause-change_room
bytes_for-number-requires-clause-change_room c = change_bytes_fit c.args.wiring

pub returns : goal.returns
returns c = grind (arith, common_steps)
