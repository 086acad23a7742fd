-- The links of the modules, and their order. Link 0 and link 3 of each module go to the switches:
-- this project's choice.
use Rattle.std.specs.Prelude.{ℕ, ◌≡◌, ◌<◌, ◌+◌, ◌⊎◌}
use Rattle.batch.specs.declared.limits.TheConstants.{MAX_MODULES}
use Rattle.link_graph.specs.declared.link.End.{End}
use Rattle.link_graph.specs.declared.link.End.TheVariants.{Zero, Three}
use Rattle.link_graph.specs.declared.link.Link.{Link}

-- the end at the other side of a transfer
abbrev pub other_end : End → End
other_end Zero = Three
other_end Three = Zero

-- the module is one that a rack may have
abbrev pub IsInRack : Link → Type 0
IsInRack link = link.«module» < MAX_MODULES

-- a link 0 stands before each link 3; otherwise the smaller module's link stands first
abbrev pub StandsBefore : Link → Link → Type 0
StandsBefore a b =
    ((a.end ≡ Zero) × (b.end ≡ Three)) ⊎ ((a.end ≡ b.end) × (a.«module» < b.«module»))

-- the place in that order, from 0, of the link of an end and a module
abbrev pub index_by : End → ℕ → ℕ
index_by Zero m = m
index_by Three m = MAX_MODULES + m

-- the place of a link
abbrev pub link_index : Link → ℕ
link_index link = index_by link.end link.«module»
