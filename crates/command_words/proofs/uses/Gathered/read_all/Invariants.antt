use Rattle.std.proofs.Common.{◌≡◌, ◌++◌, map, take}
use Rattle.command_words.specs.Jobs.{file}
use Rattle.command_words.specs.declared.uses.Access.TheVariants.{Read}
use Rattle.command_words.proofs.uses.Gathered.read_all.Given as goal

abbrev pub invariant-loop-name : goal.invariant-loop-name
invariant-loop-name l = l.self ≡ l.fn.self ++ map (file Read) (take l.name-index l.names)
