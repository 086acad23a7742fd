-- How free links of the switch are found for the links that a board's wiring leaves out: a usual
-- wiring, in which two links are exchanged for each link that isn't left out.
use Rattle.std.specs.Prelude.{◌+◌, ◌==◌, ℕ, List, if◌then◌else◌, map}
use Rattle.std.specs.List.{range_with_len}
use Rattle.crossbar.specs.declared.module_links.ModuleLinks.{ModuleLinks}
use Rattle.crossbar.specs.declared.switch.TheConstants.{JOINED_MODULES}

-- link 0 of module m on link m, and its link 3 on link 16 + m
abbrev pub usual_on : ℕ → ModuleLinks
usual_on m = record { link0 = m; link3 = m + JOINED_MODULES }

abbrev pub usual_links : List ModuleLinks
usual_links = map usual_on (range_with_len 0 JOINED_MODULES)

-- a link, where two are exchanged
abbrev pub exchange : ℕ → ℕ → ℕ → ℕ
exchange one other link = if link == one then other else if link == other then one else link

abbrev pub exchange_on : ℕ → ℕ → ModuleLinks → ModuleLinks
exchange_on one other on =
    record { link0 = exchange one other on.link0; link3 = exchange one other on.link3 }
