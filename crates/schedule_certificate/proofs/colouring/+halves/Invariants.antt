use Rattle.std.proofs.Common.{◌+◌, ◌*◌, max, length}
use Rattle.schedule_certificate.proofs.colouring.+halves.Given as goal

abbrev pub decreases-colour_part : goal.decreases-colour_part
decreases-colour_part g l = 4 * length l.part.now

abbrev pub decreases-colour_both : goal.decreases-colour_both
decreases-colour_both g l = 4 * max (length l.left.now) (length l.right.now) + 3

abbrev pub decreases-colour_both-join+arg2 : goal.decreases-colour_both-join+arg2
decreases-colour_both-join+arg2 g l = 4 * length l.left.now + 2

abbrev pub decreases-colour_both-join+arg3 : goal.decreases-colour_both-join+arg3
decreases-colour_both-join+arg3 g l = 4 * length l.right.now + 2

abbrev pub decreases-colour_copy : goal.decreases-colour_copy
decreases-colour_copy g l = 4 * length l.part.now + 1
