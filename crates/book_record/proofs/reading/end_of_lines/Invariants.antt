use Rattle.std.proofs.Common.{◌≡◌, ◌≤◌, ◌-◌, drop, length, Some}
use Rattle.book_record.specs.Reading.{after_lines}
use Rattle.book_record.proofs.reading.end_of_lines.Given as goal

abbrev pub invariant-loop : goal.invariant-loop
invariant-loop l =
    (l.end ≤ length l.text)
    × (after_lines l.count (Some l.text) ≡ after_lines (l.count - l.counter) (Some (drop l.end l.text)))
