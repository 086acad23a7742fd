use Rattle.std.proofs.Common.{◌≡◌, ◌<◌, ℕ, length, get_or}
use Rattle.link_graph.specs.declared.limits.TheConstants.{LINKS}
use Rattle.steady_schedule.specs.Masks.{bits_set}
use Rattle.steady_schedule.proofs.partners.most_partners.Given as goal

abbrev pub invariant-loop-i : goal.invariant-loop-i
invariant-loop-i l = (length l.counts ≡ LINKS) × ((k : ℕ) → k < l.i → get_or l.counts k 0 ≡ bits_set (get_or l.masks k 0))
