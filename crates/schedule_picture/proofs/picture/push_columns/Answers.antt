use Rattle.std.proofs.Common.{◌≡◌, ◌+◌, ◌++◌, ap, ◌∙◌, List, ℕ, string_bytes, arith}
use Rattle.std.specs.List.{flat_map, range_with_len}
use Rattle.schedule_picture.specs.Picture.{columns_text, setting_text}
use Rattle.batch.proofs.Lists.{more_parts}
use Rattle.schedule_picture.proofs.picture.push_columns.Goals as goal

pub loop-j-preserved : goal.loop-j-preserved
loop-j-preserved c =
    let f = λ (i : ℕ). setting_text c.args.rows.now c.args.schedule.now i (c.args.shown.first + i) in
    c.in_ok-push_setting.ensures ∙ ap (λ (x : List ℕ). x ++ f c.loop-j.j) c.loop-j.invariant ∙ more_parts f (string_bytes c.args.text.now) c.loop-j.j

pub returns : goal.returns
unfolding columns_text
returns c =
    let f = λ (i : ℕ). setting_text c.args.rows.now c.args.schedule.now i (c.args.shown.first + i) in
    let all : c.loop-j.j ≡ c.args.shown.count = omega arith in
    c.loop-j.invariant ∙ ap (λ (n : ℕ). string_bytes c.args.text.now ++ flat_map f (range_with_len 0 n)) all
