use Rattle.std.proofs.Common.{append_assoc, arith, rules}
use Rattle.schedule_picture.specs.Places.{panel_place}
use Rattle.schedule_picture.specs.Rules.{rule_text}
use Rattle.schedule_picture.proofs.Texts.{one}
use Rattle.schedule_picture.proofs.rules.push_rule.Goals as goal

pub overflow_sub-below : goal.overflow_sub-below
unfolding panel_place
overflow_sub-below c = omega (arith, c.panel_top-then-changes.ensures.value)

pub returns-then-changes : goal.returns-then-changes
unfolding rule_text
returns-then-changes c =
    one c.write.result _ _ _ (rule_text c.args.rows.now c.args.column c.args.changes)
    c.write.ensures.bytes
    (rw c.if-changes.true (simp (append_assoc, c.column_left-left.ensures.value, c.panel-panel.ensures, c.panel_top.ensures.value, c.panel_top-then-changes.ensures.value)))

pub returns : goal.returns
unfolding rule_text
returns c = rw c.if-changes.false (search rules)
