use Rattle.std.proofs.Common.{ap, sym, ◌∙◌, ◌≡◌, ◌++◌, List, ℕ, arith, [], ◌∷◌, map, append_assoc}
use Rattle.std.proofs.lemmas.Grind.{common_steps}
use Rattle.std.proofs.lemmas.List.{take_all}
use Rattle.link_graph.proofs.Texts.{more_lines}
use Rattle.link_graph.specs.Schedules.{lists_of}
use Rattle.link_graph.specs.ScheduleText.{setting_line, text_of}
use Rattle.link_graph.proofs.writing.settings_text.Goals as goal

pub loop-setting-preserved : goal.loop-setting-preserved
loop-setting-preserved c =
    let more = more_lines c.args.settings.now c.loop-setting.setting-index c.setting-item.result c.loop-setting-test.true c.setting-item.is in
    let pushed : c.push_line.new.text.items ≡ c.loop-setting.text.items ++ text_of (setting_line c.setting-item.result.items ∷ []) = rw c.deref.ensures.value
    at c.in_ok-push_line.ensures in
    pushed ∙ ap (λ (x : List ℕ). x ++ text_of (setting_line c.setting-item.result.items ∷ [])) c.loop-setting.invariant
    ∙ append_assoc (c.into_bytes-text.result.items) _ _ ∙ ap (λ (x : List ℕ). c.into_bytes-text.result.items ++ x) (sym more)

pub returns : goal.returns
returns c =
    let all = take_all c.loop-setting.setting-index c.args.settings.now c.loop-setting-test.false in
    let e : c.loop-setting.text.items ≡ c.into_bytes-text.result.items ++ text_of (map setting_line (lists_of c.args.settings.now)) = rw all
    at c.loop-setting.invariant in
    let head = c.in_ok-format.ensures in
    let same = c.into_bytes-text.ensures in
    grind (arith, common_steps)
