-- What `drive` answers.
use Rattle.std.specs.Prelude.{ℕ, Bool, not, List, [], Option}
use Rattle.plan_answers.specs.Refusals.{Printed}
use Rattle.plan_answers.specs.declared.source.ScheduleSource.{ScheduleSource}
use Rattle.switch_driver.specs.Lines.{TellsLine}
use Rattle.drive_answers.specs.Answers.{HasFailed, IsDriveAnswer}
use Rattle.drive_answers.specs.declared.fault.DriveFault.TheVariants.{Untold}
use Rattle.drive_answers.specs.Ways.{Names, Ways}

-- the ports of these names
abbrev pub names_in : List ℕ → Option (List ℕ) → Names
names_in port port_b = record { port = port; port_b = port_b }

-- An answer to these texts, from this setting on, over the ports of these names, after lines that
-- were told. After each
-- a line of the input was waited for; where it goes on, for none, and nothing was read.
abbrev pub IsDriveBy : ScheduleSource (List ℕ) → List ℕ → Option (List ℕ) → ℕ → Bool → Names
    → Option (List ℕ) → Ways → Ways → List ℕ → Printed → Type 0
IsDriveBy source batch wiring first goes_on names input was opens told end =
    (left : Option (List ℕ))
    × IsDriveAnswer (TellsLine (not goes_on)) source batch wiring first names was opens
    (record { told = []; left = input }) (record { told = told; left = left }) end

-- Settings stood and were told over the ports of these names, but that the line of the last one
-- could be told in part alone.
abbrev pub IsDriveCut : ScheduleSource (List ℕ) → List ℕ → Option (List ℕ) → ℕ → Bool → Names
    → Option (List ℕ) → Ways → Ways → List ℕ → Type 0
IsDriveCut source batch wiring first goes_on names input was opens told =
    (left : Option (List ℕ))
    × HasFailed (TellsLine (not goes_on)) source batch wiring first names was opens
    (record { told = []; left = input }) (record { told = told; left = left }) Untold
