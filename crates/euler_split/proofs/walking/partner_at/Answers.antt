use Rattle.std.proofs.Common.{sym, ◌∙◌}
use Rattle.euler_split.proofs.Turns.{pair_in}
use Rattle.euler_split.proofs.walking.partner_at.Goals as goal
use Rattle.euler_split.proofs.walking.partner_at.Goals.{in-Zero, in-Three}

pub returns-clause-within : goal.returns-clause-within
returns-clause-within c =
    rw c.from.ensures (elim c.match-end.branch [
      | in-Zero w ↦ pair_in c.args.zero.now c.args.place _ c.requires.zero_pairs (sym w.partner-is ∙ c.in_ok-partner.was)
      | in-Three w ↦ rw (← c.requires.sized) (pair_in c.args.three.now c.args.place _ c.requires.three_pairs (sym w.partner-is ∙ c.in_ok-partner.was))
    ])
