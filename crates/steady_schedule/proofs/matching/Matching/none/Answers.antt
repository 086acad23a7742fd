use Rattle.std.proofs.Common.{sym, ◌∙◌}
use Rattle.std.proofs.lemmas.Option.{none-some}
use Rattle.batch.specs.declared.limits.TheConstants.{MAX_MODULES}
use Rattle.steady_schedule.proofs.Joined.{none_there}
use Rattle.steady_schedule.proofs.Matchings.{none_matched}
use Rattle.steady_schedule.proofs.matching.Matching.none.Goals as goal

pub invariant_of-result : goal.invariant_of-result
invariant_of-result c = record { matched = none_matched }

pub returns : goal.returns
returns c x y joined = absurd (none-some y (sym (none_there MAX_MODULES x) ∙ joined))
