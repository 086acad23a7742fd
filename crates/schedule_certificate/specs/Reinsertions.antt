-- How many transfers may be put in one by one: where both halves of a part have their colours, only
-- what an odd degree costs. H. N. Gabow, "Using Euler partitions to edge color bipartite
-- multigraphs", 1976.
use Rattle.std.specs.Prelude.{◌≡◌, ℕ, ◌-◌, ◌*◌, ◌^◌, ◌≤◌, nat_lt, if◌then◌else◌}

-- three times the transfers, times the degree without 2; nothing for a degree below 2
abbrev pub bound : ℕ → ℕ → ℕ
bound n d = if nat_lt d 2 then 0 else 3 * n * (d - 2)

-- Of n transfers whose busiest link has d uses, r are few: at most three quarters of all, and none
-- where d is 0 or a power of two.
pub record AreFew (n d r : ℕ) : Type 0 where
  pub most : 4 * d * r ≤ bound n d
  pub none_at_zero : d ≡ 0 → r ≡ 0
  pub none_at_powers : (j : ℕ) → d ≡ 2 ^ j → r ≡ 0
