-- Steps: matchings that are held for some settings.
use Rattle.std.specs.Prelude.{◌≡◌, ℕ, ◌+◌, ◌-◌, ◌*◌, ◌<◌, ◌≤◌, List, length, Option, Some, None}
use Rattle.std.specs.Prelude.{Bool, false, ◌==◌, ◌&&◌, cond, nat_lt}
use Rattle.batch.specs.declared.limits.TheConstants.{MAX_MODULES}
use Rattle.link_graph.specs.declared.link.End.TheVariants.{Zero, Three}
use Rattle.steady_schedule.specs.Matchings.{partner}
use Rattle.steady_schedule.specs.Waiting.{count_at, waiting}

-- The matching can be held for k of `most` settings, as far as module x goes: its pair has as many
-- transfers, and a link of it that isn't joined has no more than there are settings then.
pub record CanHoldAt (counts : List ℕ) (zero three : List (Option ℕ)) (most k x : ℕ) : Type 0 where
  pub pair : (y : ℕ) → partner zero x ≡ Some y → k ≤ count_at counts x y
  pub zero_out : partner zero x ≡ None → waiting counts Zero x + k ≤ most
  pub three_out : partner three x ≡ None → waiting counts Three x + k ≤ most

-- It can't be held longer: these are all settings, or a pair has no more transfers, or a link that
-- isn't joined is full then.
pub data IsTight (counts : List ℕ) (zero three : List (Option ℕ)) (most k : ℕ) : Type 0 where
  all : k ≡ most → IsTight counts zero three most k
  by_pair : (x y : ℕ) → partner zero x ≡ Some y → k ≡ count_at counts x y
      → IsTight counts zero three most k
  by_zero : (x : ℕ) → x < MAX_MODULES → partner zero x ≡ None → waiting counts Zero x + k ≡ most
      → IsTight counts zero three most k
  by_three : (x : ℕ) → x < MAX_MODULES → partner three x ≡ None → waiting counts Three x + k ≡ most
      → IsTight counts zero three most k

-- The matching can be held for k of the settings, and no longer.
pub record CanHold (counts : List ℕ) (zero three : List (Option ℕ)) (most k : ℕ) : Type 0 where
  pub some : 0 < k
  pub few : k ≤ most
  pub each : (x : ℕ) → x < MAX_MODULES → CanHoldAt counts zero three most k x
  pub tight : IsTight counts zero three most k

-- whether a partner is module v
abbrev pub is_partner : Option ℕ → ℕ → Bool
is_partner None v = false
is_partner (Some w) v = w == v

-- of each pair that is joined, of the first n modules, k transfers are taken
pub record AreTaken (zero : List (Option ℕ)) (k n : ℕ) (old new : List ℕ) : Type 0 where
  pub places : length new ≡ MAX_MODULES * MAX_MODULES
  pub at : (u v : ℕ) → u < MAX_MODULES → v < MAX_MODULES
      → count_at new u v
      ≡ cond (nat_lt u n && is_partner (partner zero u) v) (count_at old u v - k) (count_at old u v)
