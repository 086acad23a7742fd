-- Which refusal a fault is.
use Rattle.board_wiring.specs.declared.fault.WiringFault.{WiringFault}
use Rattle.board_wiring.specs.declared.fault.WiringFault.TheVariants.{Line}
use Rattle.refusals.specs.declared.refusal.Refusal.{Refusal}
use Rattle.refusals.specs.declared.refusal.Refusal.TheVariants.{WiringLine}

abbrev pub of_wiring : WiringFault → Refusal
of_wiring (Line n) = WiringLine n
