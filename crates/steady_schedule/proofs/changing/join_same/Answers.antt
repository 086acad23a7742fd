use Rattle.std.proofs.Common.{◌∙◌, length, sym, inl, inr}
use Rattle.std.proofs.lemmas.Bool.Decides.{eqb_tells}
use Rattle.link_graph.specs.Marks.{members}
use Rattle.steady_schedule.proofs.Joined.{starts_of, same_from_within, differ_from_length}
use Rattle.steady_schedule.proofs.changing.join_same.Goals as goal

pub returns-then-setting-before : goal.returns-then-setting-before
returns-then-setting-before c =
    let batch = c.args.graph.now in
    let one = starts_of batch c.args.before.now c.requires.known_before c.requires.matching_before in
    let other = starts_of batch c.args.setting.now c.requires.known c.requires.matching in
    same_from_within batch c.args.before.now c.args.setting.now c.args.joined.now c.stand_in.result one other c.requires.joined c.if-setting-before.true
    (c.stand_in.ensures (members batch c.args.before.now) c.requires.joined)

pub returns-else-setting-before : goal.returns-else-setting-before
returns-else-setting-before c =
    let batch = c.args.graph.now in
    let one = starts_of batch c.args.before.now c.requires.known_before c.requires.matching_before in
    let other = starts_of batch c.args.setting.now c.requires.known c.requires.matching in
    elim (eqb_tells (length c.args.setting.now) (length c.args.before.now)) [
      | inl p ↦ absurd (c.if-setting-before.false p.1)
      | inr p ↦ p.0 ∙ sym (differ_from_length batch c.args.before.now c.args.setting.now one other c.if-setting-before.false)
    ]
