use Rattle.std.proofs.Common.{refl}
use Rattle.std.specs.Fmt.{digits}
use Rattle.schedule_picture.specs.Elements.{link_label}
use Rattle.schedule_picture.specs.Picture.{bound_words, changes_words, note_text, shown_words}
use Rattle.row_tests.proofs.tests.schedule_picture_rows.the_definitions_say_changes.Goals as goal

pub returns-clause-fewest : goal.returns-clause-fewest
unfolding digits bound_words changes_words
returns-clause-fewest c = refl

pub returns-clause-few : goal.returns-clause-few
unfolding digits bound_words changes_words
returns-clause-few c = refl

pub returns-clause-more : goal.returns-clause-more
unfolding digits bound_words changes_words
returns-clause-more c = refl

pub returns-clause-note : goal.returns-clause-note
unfolding digits link_label bound_words changes_words shown_words note_text
returns-clause-note c = refl

pub returns-clause-empty_batch : goal.returns-clause-empty_batch
unfolding digits link_label bound_words changes_words shown_words note_text
returns-clause-empty_batch c = refl
