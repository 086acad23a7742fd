-- How many modules the rack of a batch has to have, and how many switches. That a rack has two
-- where one doesn't join all its modules is this project's choice.
use Rattle.std.specs.Prelude.{◌<◌, ◌||◌, ℕ, Bool, List, length, nat_le, if◌then◌else◌}
use Rattle.std.specs.List.{list_any}
use Rattle.batch.specs.Overlap.{transfer_at}
use Rattle.batch.specs.declared.transfer.Transfer.{Transfer}
use Rattle.c004_commands.specs.declared.port.TheConstants.{PORTS}
use Rattle.crossbar.specs.declared.switch.TheConstants.{JOINED_MODULES}

-- a rack of so many modules has those that the transfer names
abbrev pub NamesBelow : ℕ → Transfer → Type 0
NamesBelow modules t = (t.initiator < modules) × (t.responder < modules)

-- it has those that the batch names
abbrev pub HasModulesOf : ℕ → List Transfer → Type 0
HasModulesOf modules batch = (t : ℕ) → t < length batch → NamesBelow modules (transfer_at batch t)

-- the transfer names a module that one switch doesn't join
abbrev pub is_far : Transfer → Bool
is_far t = nat_le JOINED_MODULES t.initiator || nat_le JOINED_MODULES t.responder

-- a rack that has the modules of these transfers has two switches
abbrev pub is_wide : List Transfer → Bool
is_wide batch = list_any is_far batch

-- how many modules the switches of such a rack join
abbrev pub joined_by : Bool → ℕ
joined_by wide = if wide then PORTS else JOINED_MODULES
