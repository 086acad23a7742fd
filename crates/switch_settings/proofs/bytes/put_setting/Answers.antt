use Rattle.std.proofs.Common.{arith}
use Rattle.crossbar.specs.Pairs.{setting}
use Rattle.switch_settings.proofs.PairCommands.{joins_fit, setting_commands, setting_text}
use Rattle.switch_settings.proofs.bytes.put_setting.Goals as goal

pub put_pairs-joined-requires-clause-room : goal.put_pairs-joined-requires-clause-room
put_pairs-joined-requires-clause-room c = omega (arith, c.put-begun.ensures.number, c.requires.room, joins_fit c.args.wiring c.args.pairs.now c.requires.pairs)

pub put-requires : goal.put-requires
put-requires c = omega (
  arith,
  c.put-begun.ensures.number,
  c.put_pairs-joined.ensures.number,
  c.requires.room,
  joins_fit c.args.wiring c.args.pairs.now
      c.requires.pairs,
)

pub returns-clause-room : goal.returns-clause-room
returns-clause-room c = omega (
  arith,
  c.put-begun.ensures.number,
  c.put_pairs-joined.ensures.number,
  c.put.ensures.number,
  joins_fit c.args.wiring c.args.pairs.now c.requires.pairs,
)

pub returns-clause-bytes : goal.returns-clause-bytes
returns-clause-bytes c = setting_text c.args.wiring c.args.pairs.now _ _ _ c.put-begun.ensures.bytes c.put_pairs-joined.ensures.bytes c.put.ensures.bytes

pub returns-clause-sets : goal.returns-clause-sets
returns-clause-sets c = λ switch.
    let w = c.args.wiring in
    let pairs = c.args.pairs.now in
    let both = setting_commands w pairs c.requires.pairs in
    record {
      commands = setting w pairs;
      ports = both.0;
      whole = setting_text w pairs _ _ _ c.put-begun.ensures.bytes c.put_pairs-joined.ensures.bytes c.put.ensures.bytes;
      quiet = both.1;
      turned = c.setting.ensures w switch pairs c.requires.pairs;
    }
