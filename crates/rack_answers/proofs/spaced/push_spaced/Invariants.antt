use Rattle.std.proofs.Common.{◌≡◌, ◌≤◌, ◌+◌, ◌-◌, ◌++◌, ◌∷◌, take, length, vec_len, vec_capacity}
use Rattle.batch.specs.Text.{space}
use Rattle.rack_answers.proofs.spaced.push_spaced.Given as goal

abbrev pub invariant-loop-digit : goal.invariant-loop-digit
invariant-loop-digit l = record {
  text : l.text.items ≡ l.fn.text.items ++ space ∷ take l.digit-index l.digits;
  room : vec_len l.text + (length l.digits - l.digit-index) ≤ vec_capacity l.text;
}
