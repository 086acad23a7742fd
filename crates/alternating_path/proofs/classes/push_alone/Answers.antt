use Rattle.std.proofs.Common.{refl}
use Rattle.batch.proofs.Lists.{pushed_alone}
use Rattle.alternating_path.proofs.classes.push_alone.Goals as goal

pub returns : goal.returns
returns c = pushed_alone _ _ _ _ c.in_ok-push-2.ensures.items (rw c.in_ok-push.ensures.items (rw c.in_ok-alone.ensures.items refl))
