use Rattle.std.proofs.Common.{refl, append_assoc, eq-eqb}
use Rattle.std.proofs.lemmas.Bool.{ne_eqb}
use Rattle.schedule_picture.specs.Picture.{length_words}
use Rattle.schedule_picture.proofs.Texts.{one, put}
use Rattle.schedule_picture.proofs.picture.push_length.Goals as goal

pub returns-then-settings-fewest : goal.returns-then-settings-fewest
unfolding length_words
returns-then-settings-fewest c =
    one c.push_str.result _ _ _ (length_words c.args.settings c.args.fewest)
    (put c.push_str.result _ _ _ c.push_str.ensures.bytes)
    (rw (eq-eqb c.args.settings c.args.fewest c.if-settings-fewest.true) refl)

pub returns-then-fewest-eq1 : goal.returns-then-fewest-eq1
unfolding length_words
returns-then-fewest-eq1 c =
    one c.push_str-then-fewest-eq1.result _ _ _ (length_words c.args.settings c.args.fewest)
    (put c.push_str-then-fewest-eq1.result _ _ _ c.push_str-then-fewest-eq1.ensures.bytes)
    (rw (ne_eqb c.args.settings c.args.fewest c.if-settings-fewest.false, eq-eqb c.args.fewest 1 c.if-fewest-eq1.true) refl)

pub returns : goal.returns
unfolding length_words
returns c =
    one c.write.result _ _ _ (length_words c.args.settings c.args.fewest)
    c.write.ensures.bytes
    (rw (ne_eqb c.args.settings c.args.fewest c.if-settings-fewest.false, ne_eqb c.args.fewest 1 c.if-fewest-eq1.false) (simp append_assoc))
