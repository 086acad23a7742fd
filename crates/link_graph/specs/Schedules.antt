-- Schedules of a batch: an edge colouring of its bipartite multigraph, each colour one switch
-- setting.
use Rattle.std.specs.Prelude.{◌≡◌, ℕ, ◌<◌, List, length, map, All, ◌==◌, count_by, sum_by}
use Rattle.std.specs.Global.{Vec}
use Rattle.batch.specs.declared.transfer.Transfer.{Transfer}
use Rattle.link_graph.specs.Uses.{IsMatching}

-- lists of numbers, without where they lie in memory
abbrev pub lists_of : List (Vec ℕ) → List (List ℕ)
lists_of lists = map (λ v. v.items) lists

-- how often t stands over all settings
abbrev pub times : ℕ → List (List ℕ) → ℕ
times t settings = sum_by (λ setting. count_by (λ u. u == t) setting) settings

-- each setting is a matching; each transfer of the batch stands exactly once, and no other number
-- at all
pub record IsScheduleOf (batch : List Transfer) (settings : List (List ℕ)) : Type 0 where
  pub matchings : All (IsMatching batch) settings
  pub once : (t : ℕ) → t < length batch → times t settings ≡ 1
  pub no_other : All (All (λ t. t < length batch)) settings
