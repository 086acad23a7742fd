use Rattle.switch_settings.proofs.PairCommands.{pair_at}
use Rattle.switch_settings.proofs.bytes.put_pairs.Goals as goal

pub to_command-requires : goal.to_command-requires
to_command-requires c = pair_at _ c.args.pairs.now c.loop-pair.pair-index _ c.requires.pairs c.loop-pair-test.true
