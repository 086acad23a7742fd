-- When two plans are equal, as a test.
use Rattle.std.specs.Prelude.{Bool}
use Rattle.std.specs.Ordering.{on, eq_of_both}
use Rattle.batch.specs.Equal.{same_transfers}
use Rattle.link_graph.specs.Equal.{same_naming}
use Rattle.alternating_path.specs.Classes.{ColouredSettings}
use Rattle.alternating_path.specs.Equal.{same_coloured}
use Rattle.schedule_certificate.specs.Plans.{Plan}

-- the settings of a plan, and how many transfers were put in one by one
abbrev pub coloured_of : Plan → ColouredSettings
coloured_of plan = record { settings = plan.settings; inserted = plan.reinserted }

-- whether both are of the same batch, have the same schedule by as many insertions, and name the
-- same
abbrev pub same_plan : Plan → Plan → Bool
same_plan =
    eq_of_both
    (on (λ p. p.batch) same_transfers)
    (eq_of_both (on coloured_of same_coloured) (on (λ p. p.named) same_naming))
