use Rattle.std.proofs.Common.{length}
use Rattle.schedule_certificate.proofs.halving.+colour_halves.Given as goal

abbrev pub decreases-colour_halves : goal.decreases-colour_halves
decreases-colour_halves l = length l.part.now
