-- What contracts see of ports, as they were gathered.
use Rattle.std.specs.Prelude.{ℕ, List, Option, option_map}
use Rattle.crossbar.specs.declared.traffic.Passing.{Passing}
use Rattle.drive_answers.specs.Ways.{Ways}
use Rattle.drive_answers.specs.declared.port_trace.SeenNames.{SeenNames}

abbrev pub ways_seen : ℕ → Option SeenNames → Option (List Passing) → ℕ → Ways
ways_seen opened names carried failed =
    record {
      opened = opened;
      names = option_map (λ seen. record { port = seen.port; port_b = seen.port_b }) names;
      carried = carried;
      failed = failed;
    }
