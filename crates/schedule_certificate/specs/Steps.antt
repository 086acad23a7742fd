-- How many steps a plan may take. A step is one round of a loop that no
-- constant bounds, or one word that is copied or filled there.
use Rattle.std.specs.Prelude.{◌≡◌, ℕ, ◌+◌, ◌-◌, ◌*◌, ◌^◌, ◌≤◌, List, length}
use Rattle.batch.specs.declared.limits.TheConstants.{MAX_MODULES}
use Rattle.batch.specs.declared.transfer.Transfer.{Transfer}
use Rattle.link_graph.specs.declared.limits.TheConstants.{LINKS}
use Rattle.link_graph.specs.declared.link.Link.{Link}
use Rattle.link_graph.specs.Counts.{uses}
use Rattle.schedule_certificate.specs.declared.degree.KnownDegree.{KnownDegree}
use Rattle.schedule_certificate.specs.declared.degree.KnownDegree.TheVariants.{Is, AtMost}

-- those of colouring n transfers of which at most 2 ^ k use a link: first of halving and putting in
-- again on k levels, then of single parts, then of the tables' cells for each colour
abbrev pub colouring_steps : ℕ → ℕ → ℕ
colouring_steps n k = 32 * (n * k) + 3 * n + 4 * LINKS * ((k + 2) * 2 ^ k - 1)

-- those of a plan: for a batch of 4,096 transfers on one link, where k is 12, they are 16,432,896
abbrev pub most_steps : ℕ → ℕ → ℕ
most_steps n k = colouring_steps n k + 8 * n + (MAX_MODULES + 1) * 2 ^ k

-- no link has more uses
abbrev pub UsesAtMost : List Transfer → ℕ → Type 0
UsesAtMost batch most = (link : Link) → uses batch link ≤ most

-- one link is in all transfers
abbrev pub HasCommonLink : List Transfer → Type 0
HasCommonLink batch = (link : Link) × (uses batch link ≡ length batch)

-- those of a plan of n transfers that share one link: it has one table, and none is joined
abbrev pub one_link_steps : ℕ → ℕ
one_link_steps n = 108 * (n + 1)

-- what is known to be the most that the degree may be
abbrev pub at_most : KnownDegree → ℕ
at_most (Is d) = d
at_most (AtMost d) = d
