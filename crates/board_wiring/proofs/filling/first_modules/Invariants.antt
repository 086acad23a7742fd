use Rattle.std.proofs.Common.{◌≡◌, take}
use Rattle.crossbar.specs.Wired.{links_of}
use Rattle.board_wiring.proofs.filling.first_modules.Given as goal

abbrev pub invariant-loop-number : goal.invariant-loop-number
invariant-loop-number l = links_of l.made ≡ take l.number (links_of l.wiring)
