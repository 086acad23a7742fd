-- The names of the ports of a rack's switches, and what passed over those that were opened.
use Rattle.std.specs.Prelude.{◌≡◌, ◌≢◌, ◌⊎◌, ◌+◌, ℕ, List, Option, Some, None}
use Rattle.crossbar.specs.declared.traffic.Passing.{Passing}
use Rattle.plan_answers.specs.Lent.{bytes_of}
use Rattle.refusals.specs.declared.refusal.PortName.TheVariants.{A, B}
use Rattle.refusals.specs.declared.refusal.Refusal.{Refusal}
use Rattle.refusals.specs.declared.refusal.Refusal.TheVariants.{Port, Ports}
use Rattle.drive_answers.specs.declared.names.PortNames.{PortNames}

-- the name of the one port, or of both
pub record Names : Type 0 where
  pub port : List ℕ
  pub port_b : Option (List ℕ)

abbrev pub names_of : PortNames → Names
names_of names = record { port = names.port.now; port_b = bytes_of names.port_b }

-- how many they are
abbrev pub number_in : Option (List ℕ) → ℕ
number_in None = 1
number_in (Some name) = 2

abbrev pub how_many : Names → ℕ
how_many names = number_in names.port_b

-- How often ports were opened, and the names of those that were opened last; what passed over those
-- that were given back last, and how often they had failed.
pub record Ways : Type 0 where
  pub opened : ℕ
  pub names : Option Names
  pub carried : Option (List Passing)
  pub failed : ℕ

-- none was opened as yet
abbrev pub unopened_ways : Ways
unopened_ways = record { opened = 0; names = None; carried = None; failed = 0 }

-- those of these names were opened
abbrev pub opened_by : Names → Ways → Ways
opened_by names ways =
    record {
      opened = ways.opened + 1;
      names = Some names;
      carried = ways.carried;
      failed = ways.failed;
    }

-- they were given back: this had passed, and so often they had failed
abbrev pub given_back : Option (List Passing) → ℕ → Ways → Ways
given_back carried failed ways =
    record { opened = ways.opened; names = ways.names; carried = carried; failed = failed }

-- those of these names were opened, once, and given back
abbrev pub used : Names → Option (List Passing) → ℕ → Ways → Ways
used names carried failed ways = given_back carried failed (opened_by names ways)

-- one of them can't be opened
abbrev pub IsPortRefused : Names → Refusal → Type 0
IsPortRefused names refusal =
    (refusal ≡ Port A) ⊎ ((how_many names ≡ 2) × (refusal ≡ Port B))

-- why there are no ways to so many switches: other than as many ports are named, or as many, and
-- one of them can't be opened
abbrev pub IsUnopened : Names → ℕ → Refusal → Type 0
IsUnopened names switches refusal =
    ((how_many names ≢ switches) × (refusal ≡ Ports switches))
    ⊎ ((how_many names ≡ switches) × IsPortRefused names refusal)
