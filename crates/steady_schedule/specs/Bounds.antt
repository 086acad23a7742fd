-- How often a steady schedule changes the switch at most: once for each pair of links in use
-- together, and once for each link in use. After each change a pair is over, or a link is needed
-- from then on.
use Rattle.std.specs.Prelude.{ℕ, ◌+◌, List, cond, nat_lt}
use Rattle.batch.specs.declared.limits.TheConstants.{MAX_MODULES}
use Rattle.batch.specs.declared.transfer.Transfer.{Transfer}
use Rattle.link_graph.specs.declared.link.End.{End}
use Rattle.link_graph.specs.declared.link.End.TheVariants.{Zero, Three}
use Rattle.link_graph.specs.declared.link.Link.{Link}
use Rattle.link_graph.specs.Counts.{uses}
use Rattle.steady_schedule.specs.Partners.{partners}
use Rattle.steady_schedule.specs.Waiting.{sum_below}

-- the link of an end and a module
abbrev pub link_of : End → ℕ → Link
link_of end m = record { end = end; «module» = m }

-- how many pairs of a link 0 and a link 3 share a transfer
abbrev pub pairs_in_use : List Transfer → ℕ
pairs_in_use batch = sum_below MAX_MODULES (λ m. partners batch (link_of Zero m))

-- 1 where a transfer uses the link, and else 0
abbrev pub in_use : List Transfer → End → ℕ → ℕ
in_use batch end m = cond (nat_lt 0 (uses batch (link_of end m))) 1 0

-- how many links of an end some transfer uses
abbrev pub links_in_use : List Transfer → End → ℕ
links_in_use batch end = sum_below MAX_MODULES (λ m. in_use batch end m)

-- the most changes of a steady schedule
abbrev pub most_changes : List Transfer → ℕ
most_changes batch = pairs_in_use batch + (links_in_use batch Zero + links_in_use batch Three)
