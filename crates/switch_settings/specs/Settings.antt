-- The settings of a schedule: the transfers of each, and the modules that these want joined.
use Rattle.std.specs.Prelude.{ℕ, List, [], map, slice_index_or}
use Rattle.batch.specs.Overlap.{transfer_at}
use Rattle.batch.specs.declared.transfer.Transfer.{Transfer}
use Rattle.crossbar.specs.declared.pair.Pair.{Pair}

-- the transfers of a setting, by their numbers
abbrev pub numbers_in : List (List ℕ) → ℕ → List ℕ
numbers_in settings k = slice_index_or settings k []

-- the modules that a transfer wants joined
abbrev pub joined_pair : Transfer → Pair
joined_pair t = record { initiator = t.initiator; responder = t.responder }

-- the pairs of these transfers
abbrev pub setting_pairs : List Transfer → List ℕ → List Pair
setting_pairs batch numbers = map joined_pair (map (transfer_at batch) numbers)
