-- Masks of modules: a bit for each.
use Rattle.std.specs.Prelude.{ℕ}
use Rattle.batch.specs.declared.limits.TheConstants.{MAX_MODULES}
use Rattle.link_graph.specs.Counts.{count_below}
use Rattle.link_graph.specs.Masks.{has_bit}

-- how many modules are in the mask
unfoldable pub bits_set : ℕ → ℕ
bits_set mask = count_below MAX_MODULES (λ m. has_bit mask m)
