use Rattle.std.proofs.Common.{arith}
use Rattle.crossbar.specs.Pairs.{change}
use Rattle.switch_settings.proofs.PairCommands.{change_fits, change_commands, change_text}
use Rattle.switch_settings.proofs.bytes.put_change.Goals as goal

pub put_pairs-cut-requires-clause-room : goal.put_pairs-cut-requires-clause-room
put_pairs-cut-requires-clause-room c = omega (arith, c.requires.room, change_fits c.args.wiring c.args.old.now c.args.new.now c.requires.old c.requires.new)

pub put_pairs-changed-requires-clause-room : goal.put_pairs-changed-requires-clause-room
put_pairs-changed-requires-clause-room c =
    omega (arith, c.put_pairs-cut.ensures.number, c.requires.room, change_fits c.args.wiring c.args.old.now c.args.new.now c.requires.old c.requires.new)

pub put-requires : goal.put-requires
put-requires c = omega (
  arith,
  c.put_pairs-cut.ensures.number,
  c.put_pairs-changed.ensures.number,
  c.requires.room,
  change_fits c.args.wiring c.args.old.now
      c.args.new.now c.requires.old c.requires.new,
)

pub returns-clause-room : goal.returns-clause-room
returns-clause-room c = omega (
  arith,
  c.put_pairs-cut.ensures.number,
  c.put_pairs-changed.ensures.number,
  c.put.ensures.number,
  change_fits c.args.wiring c.args.old.now c.args.new.now c.requires.old c.requires.new,
)

pub returns-clause-sets : goal.returns-clause-sets
returns-clause-sets c =
    let w = c.args.wiring in
    let old = c.args.old.now in
    let new = c.args.new.now in
    let both = change_commands w old new c.requires.old c.requires.new in
    record {
      commands = change w old new;
      ports = both.0;
      whole = change_text w old new _ _ _ c.put_pairs-cut.ensures.bytes c.put_pairs-changed.ensures.bytes c.put.ensures.bytes;
      quiet = both.1;
      turned = c.change.ensures w old new c.requires.old c.requires.new;
    }
