use Rattle.std.proofs.Common.{◌≡◌, take}
use Rattle.crossbar.specs.Wired.{links_of}
use Rattle.board_wiring.specs.Filling.{usual_links}
use Rattle.board_wiring.proofs.filling.usual.Given as goal

abbrev pub invariant-loop-number : goal.invariant-loop-number
invariant-loop-number l = links_of l.wiring ≡ take l.number usual_links
