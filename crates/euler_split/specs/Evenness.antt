-- Transfers of which each pair of links has an even number, or one that can be halved several
-- times.
use Rattle.std.specs.Prelude.{◌≡◌, ◌↔◌, ℕ, ◌+◌, ◌*◌, ◌<◌, List, length, ◌==◌, ◌&&◌, Bool, count_by}
use Rattle.std.specs.Prelude.{slice_index}
use Rattle.std.specs.Int.{bit_at}
use Rattle.batch.specs.declared.limits.TheConstants.{MAX_MODULES}
use Rattle.batch.specs.declared.transfer.Transfer.{Transfer}
use Rattle.link_graph.specs.declared.link.End.TheVariants.{Zero, Three}
use Rattle.euler_split.specs.Pairs.{module_in}

-- whether transfer t uses link 0 of module u and link 3 of module v
abbrev pub uses_pair : List Transfer → ℕ → ℕ → ℕ → Bool
uses_pair batch u v t = module_in batch Zero t == u && module_in batch Three t == v

-- how many of the transfers use link 0 of module u and link 3 of module v
abbrev pub pair_count : List Transfer → List ℕ → ℕ → ℕ → ℕ
pair_count batch ts u v = count_by (uses_pair batch u v) ts

-- at the place of each pair of links, how many of the transfers use it
pub record ArePairCounts (batch : List Transfer) (ts counts : List ℕ) : Type 0 where
  pub places : length counts ≡ MAX_MODULES * MAX_MODULES
  pub at : (u v : ℕ) → u < MAX_MODULES → v < MAX_MODULES
      → slice_index counts (u * MAX_MODULES + v) ≡ pair_count batch ts u v

-- the number has each bit that one of the first n numbers has, and no other
abbrev pub HasBits : List ℕ → ℕ → ℕ → Type 0
HasBits numbers n bits =
    (i : ℕ) → (bit_at bits i ≡ 0) ↔ ((k : ℕ) → k < n → bit_at (slice_index numbers k) i ≡ 0)

-- The transfers of each pair of links can be halved at least so many times with none left over: how
-- many they are is a multiple of 2 ^ times. So as a binary number it ends in so many zeros.
abbrev pub CanBeHalved : List Transfer → List ℕ → ℕ → Type 0
CanBeHalved batch ts times = (u v i : ℕ) → i < times → bit_at (pair_count batch ts u v) i ≡ 0

-- each pair of links has as many transfers in the one half as in the other
abbrev pub HaveSamePairs : List Transfer → List ℕ → List ℕ → Type 0
HaveSamePairs batch left right = (u v : ℕ) → pair_count batch left u v ≡ pair_count batch right u v
