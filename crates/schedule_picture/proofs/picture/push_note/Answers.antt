use Rattle.std.proofs.Common.{append_assoc}
use Rattle.schedule_picture.specs.Picture.{note_text}
use Rattle.schedule_picture.proofs.Texts.{five}
use Rattle.schedule_picture.proofs.picture.push_note.Goals as goal

pub returns : goal.returns
unfolding note_text
returns c =
    five c.push_shown.result _ _ _ _ _ _ _ _ _ _ _ (note_text c.args.settings c.args.verdict c.args.shown)
    c.in_ok-push_changes.ensures
    c.in_ok-push_str.ensures.bytes
    c.in_ok-push_busiest.ensures
    c.in_ok-push_str-2.ensures.bytes
    c.push_shown.ensures
    (simp (append_assoc, c.standing_word.ensures))
