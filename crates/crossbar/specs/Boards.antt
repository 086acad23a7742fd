-- How the modules of a board are wired to its one switch: which links of the switch they are on.
-- That no two of them share a link is this project's choice.
use Rattle.std.specs.Prelude.{◌==◌, ◌&&◌, ◌||◌, ℕ, Bool, true, not, List, [], ◌∷◌, length, nat_lt}
use Rattle.std.specs.Prelude.{nat_le}
use Rattle.std.specs.List.{flat_map, list_any, list_all}
use Rattle.c004_commands.specs.declared.port.TheConstants.{PORTS}
use Rattle.crossbar.specs.declared.module_links.ModuleLinks.{ModuleLinks}
use Rattle.crossbar.specs.declared.switch.TheConstants.{JOINED_MODULES}

-- the links of the switch that a module is on
abbrev pub both_links : ModuleLinks → List ℕ
both_links on = on.link0 ∷ on.link3 ∷ []

-- those that modules are on, module by module
abbrev pub all_links : List ModuleLinks → List ℕ
all_links modules = flat_map both_links modules

-- whether a module is on a link of the switch
abbrev pub is_at : ℕ → ModuleLinks → Bool
is_at link on = on.link0 == link || on.link3 == link

-- no link stands there twice
abbrev pub are_distinct : List ℕ → Bool
are_distinct [] = true
are_distinct (link ∷ links) = not (list_any (λ other. other == link) links) && are_distinct links

-- One switch joins so many modules, has the links that they are on, and no two are on one.
abbrev pub is_wiring : List ModuleLinks → Bool
is_wiring modules =
    nat_le (length modules) JOINED_MODULES
    && (list_all (λ link. nat_lt link PORTS) (all_links modules)
    && are_distinct (all_links modules))
