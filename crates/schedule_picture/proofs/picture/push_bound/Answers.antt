use Rattle.std.proofs.Common.{refl, eq-eqb}
use Rattle.std.proofs.lemmas.Bool.{ne_eqb}
use Rattle.schedule_picture.specs.Picture.{bound_words}
use Rattle.schedule_picture.proofs.Texts.{one, put}
use Rattle.schedule_picture.proofs.picture.push_bound.Goals as goal

pub returns-then-changes-partners : goal.returns-then-changes-partners
unfolding bound_words
returns-then-changes-partners c =
    one c.push_str.result _ _ _ (bound_words c.args.changes c.args.partners c.args.least)
    (put c.push_str.result _ _ _ c.push_str.ensures.bytes)
    (rw (eq-eqb c.args.changes c.args.partners c.if-changes-partners.true) refl)

pub returns-then-changes-least : goal.returns-then-changes-least
unfolding bound_words
returns-then-changes-least c =
    one c.push_str-then-changes-least.result _ _ _ (bound_words c.args.changes c.args.partners c.args.least)
    (put c.push_str-then-changes-least.result _ _ _ c.push_str-then-changes-least.ensures.bytes)
    (rw (ne_eqb c.args.changes c.args.partners c.if-changes-partners.false, eq-eqb c.args.changes c.args.least c.if-changes-least.true) refl)

pub returns : goal.returns
unfolding bound_words
returns c =
    one c.write.result _ _ _ (bound_words c.args.changes c.args.partners c.args.least)
    c.write.ensures.bytes
    (rw (ne_eqb c.args.changes c.args.partners c.if-changes-partners.false, ne_eqb c.args.changes c.args.least c.if-changes-least.false) refl)
