use Rattle.std.proofs.Common.{append_assoc}
use Rattle.schedule_picture.specs.Cells.{title_text}
use Rattle.schedule_picture.proofs.Texts.{five, put}
use Rattle.schedule_picture.proofs.cells.push_title.Goals as goal

pub returns : goal.returns
unfolding title_text
returns c =
    five c.push_str-2.result _ _ _ _ _ _ _ _ _ _ _ (title_text c.args.number c.args.transfer.now)
    c.in_ok-write.ensures.bytes
    c.in_ok-push_place.ensures
    c.in_ok-push_str.ensures.bytes
    c.in_ok-push_place-2.ensures
    (put c.push_str-2.result _ _ _ c.push_str-2.ensures.bytes)
    (simp (append_assoc, c.kind_word-word.ensures, c.way_word.ensures))
