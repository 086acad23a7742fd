use Rattle.std.proofs.Common.{◌≡◌, ℕ, ◌+◌, ◌≤◌, get_or, take}
use Rattle.euler_split.specs.Deals.{AreDealt}
use Rattle.euler_split.proofs.halving.deal.Given as goal

abbrev pub invariant-loop-place : goal.invariant-loop-place
invariant-loop-place l = record {
  cost : l.steps ≡ l.fn.steps + l.place;
  counted : l.left + l.right ≡ l.place;
  rest : (i : ℕ) → l.place ≤ i → get_or l.members i 0 ≡ get_or l.initial.members i 0;
  dealt : AreDealt l.graph l.initial.members l.place l.initial.turns l.turns (take l.left l.members) (take l.right l.others);
}
