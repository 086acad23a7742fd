-- When two coloured schedules are equal, as a test.
use Rattle.std.specs.Prelude.{Bool, ◌==◌}
use Rattle.std.specs.Ordering.{on, eq_of_both}
use Rattle.link_graph.specs.Equal.{same_settings}
use Rattle.alternating_path.specs.Classes.{ColouredSettings}

-- whether both have the same settings, and were made by as many insertions
abbrev pub same_coloured : ColouredSettings → ColouredSettings → Bool
same_coloured = eq_of_both (on (λ s. s.settings) same_settings) (on (λ s. s.inserted) ◌==◌)
