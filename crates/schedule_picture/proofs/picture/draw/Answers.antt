use Rattle.std.proofs.Common.{◌≡◌, ◌++◌, string_bytes}
use Rattle.schedule_picture.specs.Picture.{picture_of}
use Rattle.schedule_picture.proofs.Texts.{all_five}
use Rattle.schedule_picture.proofs.picture.draw.Goals as goal

pub returns : goal.returns
returns c =
    let picture = picture_of c.args.batch.now c.args.schedule.now c.args.verdict c.args.shown in
    let whole : string_bytes c.push_closing.new.text ≡ string_bytes c.new-text.result ++ picture =
    all_five _ _ _ _ _ _ _ _ _ _ _ picture
    c.in_ok-push_opening.ensures
    c.in_ok-push_rows.ensures
    c.in_ok-push_headings.ensures
    c.in_ok-push_columns.ensures
    c.in_ok-push_closing.ensures
    (simp (c.of-rows.ensures.value, c.settings-settings.ensures)) in
    rw c.new-text.ensures.bytes at whole
