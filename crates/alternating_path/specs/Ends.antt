-- The two ends of a transfer.
use Rattle.std.specs.Prelude.{ℕ, List}
use Rattle.batch.specs.declared.transfer.Transfer.{Transfer}
use Rattle.batch.specs.Overlap.{transfer_at}
use Rattle.link_graph.specs.declared.link.End.{End}
use Rattle.link_graph.specs.declared.link.End.TheVariants.{Zero, Three}
use Rattle.link_graph.specs.declared.link.Link.{Link}
use Rattle.link_graph.specs.Uses.{start_link, answer_link}

-- the link of a transfer at an end
abbrev pub end_link : Transfer → End → Link
end_link x Zero = start_link x
end_link x Three = answer_link x

-- the link that transfer t uses at an end
unfoldable pub link_at : List Transfer → ℕ → End → Link
link_at batch t end = end_link (transfer_at batch t) end
