use Rattle.std.proofs.Common.{append_assoc}
use Rattle.schedule_picture.specs.Elements.{coloured_box}
use Rattle.schedule_picture.proofs.Texts.{two}
use Rattle.schedule_picture.proofs.elements.push_coloured.Goals as goal

pub returns : goal.returns
unfolding coloured_box
returns c =
    two c.push_box.result _ _ _ _ _ (coloured_box c.args.«module» c.args.left c.args.top c.args.width c.args.height)
    c.in_ok-write.ensures.bytes
    c.push_box.ensures
    (simp append_assoc)
