use Rattle.std.proofs.Common.{append_assoc, eq-eqb, rules}
use Rattle.std.proofs.lemmas.Bool.{ne_eqb}
use Rattle.schedule_picture.specs.Picture.{shown_words}
use Rattle.schedule_picture.proofs.Texts.{one}
use Rattle.schedule_picture.proofs.picture.push_shown.Goals as goal

pub returns-then-shown-settings : goal.returns-then-shown-settings
unfolding shown_words
returns-then-shown-settings c = search rules

pub returns-then-shown-eq1 : goal.returns-then-shown-eq1
unfolding shown_words
returns-then-shown-eq1 c =
    one c.write.result _ _ _ (shown_words c.args.settings c.args.shown)
    c.write.ensures.bytes
    (rw (ne_eqb c.args.shown.count c.args.settings c.if-shown-settings.false, eq-eqb c.args.shown.count 1 c.if-shown-eq1.true) (simp append_assoc))

pub returns : goal.returns
unfolding shown_words
returns c =
    one c.write-2.result _ _ _ (shown_words c.args.settings c.args.shown)
    c.write-2.ensures.bytes
    (rw (ne_eqb c.args.shown.count c.args.settings c.if-shown-settings.false, ne_eqb c.args.shown.count 1 c.if-shown-eq1.false)
    (simp (append_assoc, c.saturating_sub-last.ensures)))
