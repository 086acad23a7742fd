-- How many transfers of each pair of links wait for a setting. Those of link 0 of module u and link
-- 3 of module v stand at the place `u * MAX_MODULES + v`.
use Rattle.std.specs.Prelude.{◌≡◌, ℕ, zero, suc, ◌+◌, ◌*◌, ◌<◌, ◌≤◌, List, length, ◌==◌, ◌&&◌}
use Rattle.std.specs.Prelude.{count_by, nat_lt, slice_index}
use Rattle.batch.specs.declared.limits.TheConstants.{MAX_MODULES}
use Rattle.batch.specs.declared.transfer.Transfer.{Transfer}
use Rattle.link_graph.specs.declared.link.End.{End}
use Rattle.link_graph.specs.declared.link.End.TheVariants.{Zero, Three}
use Rattle.link_graph.specs.Masks.{has_pair}

-- the sum of the first n values
unfoldable pub sum_below : ℕ → (ℕ → ℕ) → ℕ
sum_below zero f = 0
sum_below (suc n) f = f n + sum_below n f

-- how many transfers of the batch join link 0 of module u to link 3 of module v
abbrev pub pair_count : List Transfer → ℕ → ℕ → ℕ
pair_count batch u v = count_by (λ x. x.initiator == u && x.responder == v) batch

-- the place of a pair
abbrev pub pair_index : ℕ → ℕ → ℕ
pair_index u v = u * MAX_MODULES + v

-- how many transfers of the pair wait
abbrev pub count_at : List ℕ → ℕ → ℕ → ℕ
count_at counts u v = slice_index counts (pair_index u v)

-- how many transfers of link x of an end with link y of the other end wait
abbrev pub count_between : List ℕ → End → ℕ → ℕ → ℕ
count_between counts Zero x y = count_at counts x y
count_between counts Three x y = count_at counts y x

-- how many of a link wait
abbrev pub waiting : List ℕ → End → ℕ → ℕ
waiting counts Zero m = sum_below MAX_MODULES (λ v. count_at counts m v)
waiting counts Three m = sum_below MAX_MODULES (λ u. count_at counts u m)

-- just the transfers of the batch wait
pub record ArePairCounts (batch : List Transfer) (counts : List ℕ) : Type 0 where
  pub places : length counts ≡ MAX_MODULES * MAX_MODULES
  pub at : (u v : ℕ) → u < MAX_MODULES → v < MAX_MODULES
      → count_at counts u v ≡ pair_count batch u v

-- What stands beside the counts: masks of the links near each link, those with which it has
-- transfers that wait, and how many wait of each link.
pub record AreSummaries (counts zero_near zero_uses three_near three_uses : List ℕ) : Type 0 where
  pub places : length counts ≡ MAX_MODULES * MAX_MODULES
  pub near_zero_sized : length zero_near ≡ MAX_MODULES
  pub near_three_sized : length three_near ≡ MAX_MODULES
  pub uses_zero_sized : length zero_uses ≡ MAX_MODULES
  pub uses_three_sized : length three_uses ≡ MAX_MODULES
  pub near_zero : (u v : ℕ) → u < MAX_MODULES → v < MAX_MODULES
      → has_pair zero_near u v ≡ nat_lt 0 (count_at counts u v)
  pub near_three : (u v : ℕ) → u < MAX_MODULES → v < MAX_MODULES
      → has_pair three_near v u ≡ nat_lt 0 (count_at counts u v)
  pub uses_zero : (m : ℕ) → m < MAX_MODULES → slice_index zero_uses m ≡ waiting counts Zero m
  pub uses_three : (m : ℕ) → m < MAX_MODULES → slice_index three_uses m ≡ waiting counts Three m

-- no transfer of the modules from the n-th on waits
abbrev pub NoneWait : List ℕ → ℕ → Type 0
NoneWait counts n = (end : End) (m : ℕ) → n ≤ m → m < MAX_MODULES → waiting counts end m ≡ 0

-- no link has more transfers that wait
abbrev pub HaveMost : List ℕ → ℕ → Type 0
HaveMost counts most = (end : End) (m : ℕ) → m < MAX_MODULES → waiting counts end m ≤ most
