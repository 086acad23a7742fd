use Rattle.std.proofs.Common.{ℕ, List, ◌≢◌}
use Rattle.std.specs.Prelude.{All}
use Rattle.std.specs.Io.KnownBytes.{Consumes}
use Rattle.switch_driver.proofs.lines.wait_line.Given as goal

abbrev pub invariant-loop : goal.invariant-loop
invariant-loop g l = (came : List ℕ) × All (λ b. b ≢ 10) came × Consumes (g.I.Read.remaining l.initial.reader) (g.I.Read.remaining l.reader) came
