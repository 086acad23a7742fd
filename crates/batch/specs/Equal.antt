-- When two batches are equal, as a test.
use Rattle.std.specs.Prelude.{Bool, List}
use Rattle.std.specs.Cmp.Lexicographic.{pointwise}
use Rattle.batch.specs.contracts.transfer.TransferPartialEq.TheImpl as transfer
use Rattle.batch.specs.declared.transfer.Transfer.{Transfer}

-- whether there are as many transfers, each of them equal to the other in its place
abbrev pub same_transfers : List Transfer → List Transfer → Bool
same_transfers ts us = pointwise transfer.ghosts.eq ts us
