-- The modules of a board's wiring, by their numbers.
use Rattle.std.specs.Prelude.{ℕ, List, take, slice_index_or}
use Rattle.crossbar.specs.declared.board.BoardWiring.{BoardWiring}
use Rattle.crossbar.specs.declared.module_links.ModuleLinks.{ModuleLinks}

-- what each module is on, module by module
abbrev pub links_of : BoardWiring → List ModuleLinks
links_of board = take board.modules board.links

-- what stands for a module that isn't wired
abbrev pub unwired : ModuleLinks
unwired = record { link0 = 0; link3 = 0 }

-- what a module is on
abbrev pub links_on : BoardWiring → ℕ → ModuleLinks
links_on board m = slice_index_or (links_of board) m unwired

-- the link of the switch that link 0 of a module is on
abbrev pub link0_on : BoardWiring → ℕ → ℕ
link0_on board m = (links_on board m).link0

-- the link of the switch that link 3 of a module is on
abbrev pub link3_on : BoardWiring → ℕ → ℕ
link3_on board m = (links_on board m).link3
