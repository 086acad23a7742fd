-- What the text of a wiring says: on which links of the board's one switch link 0 and link 3 of
-- each module are, where they are on one. That no two of them share a link is this project's
-- choice.
use Rattle.std.specs.Prelude.{◌==◌, ◌&&◌, ◌||◌, ◌+◌, ℕ, Bool, true, false, not, List, [], ◌∷◌, ◌++◌}
use Rattle.std.specs.Prelude.{Option, None, Some, is_some, nat_lt, nat_le}
use Rattle.std.specs.List.{flat_map, list_any, list_all}
use Rattle.c004_commands.specs.declared.port.TheConstants.{PORTS}
use Rattle.crossbar.specs.Boards.{are_distinct}
use Rattle.crossbar.specs.declared.switch.TheConstants.{JOINED_MODULES}
use Rattle.board_wiring.specs.declared.wired_module.WiredModule.{WiredModule}

-- the link of the switch, where there is one
abbrev pub given : Option ℕ → List ℕ
given None = []
given (Some link) = link ∷ []

-- the links of the switch that a module is on
abbrev pub given_links : WiredModule → List ℕ
given_links on = given on.link0 ++ given on.link3

-- those that modules are on
abbrev pub all_given : List WiredModule → List ℕ
all_given modules = flat_map given_links modules

-- the modules' numbers rise, from this one on
abbrev pub are_rising : ℕ → List WiredModule → Bool
are_rising least [] = true
are_rising least (on ∷ modules) = nat_le least on.number && are_rising (on.number + 1) modules

-- the number after that of the last module, or this one where there is none
abbrev pub after_last : ℕ → List WiredModule → ℕ
after_last least [] = least
after_last least (on ∷ modules) = after_last (on.number + 1) modules

-- Their numbers rise, and one switch joins the modules of these numbers. It has the links that they
-- are on, and no link stands there twice.
abbrev pub are_wired : List WiredModule → Bool
are_wired modules =
    (are_rising 0 modules && list_all (λ on. nat_lt on.number JOINED_MODULES) modules)
    && (list_all (λ link. nat_lt link PORTS) (all_given modules)
    && are_distinct (all_given modules))

-- ---- what is there

-- whether the module of this number is there
abbrev pub has_module : List WiredModule → ℕ → Bool
has_module modules m = list_any (λ on. on.number == m) modules

-- whether its link 0 is on a link of the switch
abbrev pub has_link0 : List WiredModule → ℕ → Bool
has_link0 modules m = list_any (λ on. on.number == m && is_some on.link0) modules

-- whether its link 3 is
abbrev pub has_link3 : List WiredModule → ℕ → Bool
has_link3 modules m = list_any (λ on. on.number == m && is_some on.link3) modules

-- ---- one module more

-- whether a module is on this link of the switch
abbrev pub is_at : ℕ → WiredModule → Bool
is_at link on =
    list_any (λ other. other == link) (given on.link0)
    || list_any (λ other. other == link) (given on.link3)

-- whether the switch has the link, where there is one, and it isn't among these
abbrev pub is_free_in : List ℕ → Option ℕ → Bool
is_free_in links None = true
is_free_in links (Some link) = nat_lt link PORTS && not (list_any (λ other. other == link) links)

-- whether two links are one link of the switch
abbrev pub is_one : Option ℕ → Option ℕ → Bool
is_one (Some link) (Some other) = link == other
is_one (Some link) None = false
is_one None other = false
