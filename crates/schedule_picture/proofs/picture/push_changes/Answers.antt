use Rattle.std.proofs.Common.{append_assoc}
use Rattle.schedule_picture.specs.Picture.{changes_words}
use Rattle.schedule_picture.proofs.Texts.{two}
use Rattle.schedule_picture.proofs.picture.push_changes.Goals as goal

pub returns : goal.returns
unfolding changes_words
returns c = two c.push_bound.result _ _ _ _ _ (changes_words c.args.changes c.args.partners c.args.least) c.in_ok-write.ensures.bytes c.push_bound.ensures
    (simp append_assoc)
