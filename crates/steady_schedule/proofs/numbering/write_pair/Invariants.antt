use Rattle.std.proofs.Common.{◌≡◌, ◌+◌, ◌<◌, ◌≤◌, ℕ, slice_index}
use Rattle.steady_schedule.proofs.numbering.write_pair.Given as goal

abbrev pub invariant-loop-place : goal.invariant-loop-place
invariant-loop-place l = record {
  here : (p : ℕ) → l.at ≤ p → p < l.place → slice_index l.slots p + p + 1 ≡ l.first + l.end;
  before : (p : ℕ) → p < l.at → slice_index l.slots p ≡ slice_index l.initial.slots p;
  behind : (p : ℕ) → l.place ≤ p → slice_index l.slots p ≡ slice_index l.initial.slots p;
}
