use Rattle.std.proofs.Common.{true, false, refl, sym, ◌∙◌}
use Rattle.euler_split.proofs.PairCounts.{one_fewer}
use Rattle.euler_split.proofs.Steps.{both_low, taken}
use Rattle.euler_split.proofs.trails.take.Goals as goal

pub returns-then-to_left-clause-walked : goal.returns-then-to_left-clause-walked
returns-then-to_left-clause-walked c all first_left start end next x =
    taken _ _ (both_low c.requires.zero_in c.requires.three_in) _ _ _ _ c.requires.some c.toggle.ensures.toggled true c.toggle-then-to_left.ensures.toggled all
    first_left start end (sym c.if-to_left.true ∙ next) x

pub returns-else-to_left-clause-walked : goal.returns-else-to_left-clause-walked
returns-else-to_left-clause-walked c all first_left start end next x =
    taken _ _ (both_low c.requires.zero_in c.requires.three_in) _ _ _ _ c.requires.some c.toggle.ensures.toggled false (λ u v. refl) all first_left start end
    (sym c.if-to_left.false ∙ next) x

pub returns-then-to_left-clause-fewer : goal.returns-then-to_left-clause-fewer
returns-then-to_left-clause-fewer c = one_fewer c.args.zero c.args.three c.requires.zero_in c.requires.three_in _ _ c.toggle.ensures.toggled c.requires.some

pub returns-else-to_left-clause-fewer : goal.returns-else-to_left-clause-fewer
returns-else-to_left-clause-fewer c = one_fewer c.args.zero c.args.three c.requires.zero_in c.requires.three_in _ _ c.toggle.ensures.toggled c.requires.some
