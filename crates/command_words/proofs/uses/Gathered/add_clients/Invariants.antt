use Rattle.std.proofs.Common.{◌≡◌, ◌++◌, take}
use Rattle.std.specs.Prelude.{flat_map}
use Rattle.command_words.specs.Jobs.{client_files}
use Rattle.command_words.proofs.uses.Gathered.add_clients.Given as goal

abbrev pub invariant-loop-client : goal.invariant-loop-client
invariant-loop-client l = l.self ≡ l.fn.self ++ flat_map client_files (take l.client-index l.clients)
