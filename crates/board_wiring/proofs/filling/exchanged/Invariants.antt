use Rattle.std.proofs.Common.{◌≡◌, map, take}
use Rattle.crossbar.specs.Wired.{links_of}
use Rattle.board_wiring.specs.Filling.{exchange_on}
use Rattle.board_wiring.proofs.filling.exchanged.Given as goal

abbrev pub invariant-loop-number : goal.invariant-loop-number
invariant-loop-number l = links_of l.made ≡ take l.number (map (exchange_on l.one l.other) (links_of l.wiring))
