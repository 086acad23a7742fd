use Rattle.std.proofs.Common.{◌≡◌, ◌++◌, take, string_bytes}
use Rattle.std.specs.List.{flat_map}
use Rattle.batch.specs.Lists.{line}
use Rattle.batch.proofs.list_writing.write_list.Given as goal

abbrev pub invariant-loop-thing : goal.invariant-loop-thing
invariant-loop-thing g l = string_bytes l.text ≡ string_bytes l.initial.text ++ flat_map (line g.T.Listed.form) (take l.thing-index l.things)
