use Rattle.std.proofs.Common.{◌≡◌, [], sym}
use Rattle.std.proofs.lemmas.Option.{get_or_from_slice_get}
use Rattle.schedule_picture.specs.Picture.{setting_text}
use Rattle.schedule_picture.proofs.Texts.{two}
use Rattle.steady_schedule.specs.Needs.{setting_at}
use Rattle.schedule_picture.proofs.picture.push_setting.Goals as goal

pub returns : goal.returns
unfolding setting_text
returns c =
    let settings = c.args.schedule.now in
    let here : setting_at settings c.args.k ≡ c.in-Some.numbers.now = get_or_from_slice_get settings c.args.k c.in-Some.numbers.now []
    (sym c.in-Some.ensures) in
    two c.push_column.result _ _ _ _ _ (setting_text c.args.rows.now settings c.args.column c.args.k)
    c.in_ok-push_rule.ensures
    c.push_column.ensures
    (simp (c.transfers.ensures.value, c.changes_at-changes.ensures, here))
