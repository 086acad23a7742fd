use Rattle.std.proofs.lemmas.List.{length-map}
use Rattle.batch.proofs.Lists.{pushed_into}
use Rattle.steady_schedule.proofs.gathering.push_into.Goals as goal

pub returns : goal.returns
returns c = pushed_into _ _ _ _ _ (rw (length-map c.args.lists.now.items (λ v. v.items)) at c.requires) c.index_mut.ensures.value c.in_ok-push.ensures.items
