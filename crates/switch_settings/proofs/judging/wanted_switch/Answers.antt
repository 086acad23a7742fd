use Rattle.std.proofs.Common.{ap}
use Rattle.crossbar.specs.Chips.{switch_at}
use Rattle.crossbar.specs.Pairs.{switch_of}
use Rattle.crossbar.specs.declared.chip.Chip.TheVariants.{A}
use Rattle.switch_settings.proofs.PairCommands.{setting_bytes_fit, change_bytes_fit}
use Rattle.switch_settings.proofs.Replies.{sent}
use Rattle.switch_settings.proofs.judging.wanted_switch.Goals as goal

pub bytes_for-number-requires-clause-setting_room : goal.bytes_for-number-requires-clause-setting_room
bytes_for-number-requires-clause-setting_room c = setting_bytes_fit c.args.wiring

pub bytes_for-number-requires-clause-change_room : goal.bytes_for-number-requires-clause-change_room
bytes_for-number-requires-clause-change_room c = change_bytes_fit c.args.wiring

pub returns : goal.returns
returns c = ap (switch_at A) (sent A _ c.new-wanted.result c.converse.new.self (switch_of c.args.wiring c.args.pairs.now) c.converse.new.replies
    (c.bytes_for-number.ensures.sets c.new-wanted.result.a tt) c.converse.ensures.done)
