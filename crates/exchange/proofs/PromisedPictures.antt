-- The promises of `draw`.
use Rattle.std.proofs.Common.{◌≡◌, ◌∙◌, ◌++◌, ℕ, List, length, Option, codes, refl, sym, subst, ap, append_assoc}
use Rattle.batch.specs.Batches.{IsBatch}
use Rattle.batch.specs.ShapeView.{widest}
use Rattle.batch.specs.declared.transfer.Transfer.{Transfer}
use Rattle.clap.specs.Words.{Text}
use Rattle.exchange.proofs.EndStatuses.{never_done}
use Rattle.exchange.specs.Promises.{HasDrawn, HasPriced, IsTitled, IsPartOf}
use Rattle.link_graph.specs.Certificates.{Naming}
use Rattle.plan_answers.specs.Drawings.{IsDrawnWith, drawn, undrawn}
use Rattle.plan_answers.specs.Pricing.{IsPriced, priced, unpriced}
use Rattle.plan_answers.specs.Refusals.{Printed}
use Rattle.plan_answers.specs.declared.limits.TheConstants.{DONE}
use Rattle.schedule_picture.proofs.Fewest.{tells_fewest}
use Rattle.schedule_picture.proofs.Needed.{needed}
use Rattle.schedule_picture.proofs.Overlaps.{overlapping}
use Rattle.schedule_picture.specs.Picture.{caption_part, changes_words, closing_text, columns_text, heading_text, note_text, opening_text, picture_of, rows_text, size_text, style_text, title_part}
use Rattle.schedule_picture.specs.Picture.{busiest_words, standing_words, shown_words}
use Rattle.schedule_picture.specs.Places.{height_of, width_of}
use Rattle.schedule_picture.specs.RowsText.{headings_text}
use Rattle.schedule_picture.specs.Verdicts.{IsVerdict}
use Rattle.schedule_picture.specs.declared.shown.ShownSettings.{ShownSettings}
use Rattle.schedule_picture.specs.declared.verdict.Verdict.{Verdict}
use Rattle.steady_schedule.proofs.Prices.{needed_by}

-- what stands in a front of the text
pub stands_before : (part text more : List ℕ) → IsPartOf part text → IsPartOf part (text ++ more)
stands_before part text more s = (
  s.0,
  s.1 ++ more,
  ap (λ (t : List ℕ). t ++ more) s.2 ∙ append_assoc s.0 (part ++ s.1) more
      ∙ ap (λ (t : List ℕ). s.0 ++ t) (append_assoc part s.1 more),
)

title_there : (size heading comma words more end : List ℕ) → IsPartOf (heading ++ comma ++ words) (size ++ heading ++ comma ++ (words ++ more) ++ end)
title_there size heading comma words more end = (size, more ++ end, simp append_assoc refl)

note_is : (settings : ℕ) (verdict : Verdict) (shown : ShownSettings) → note_text settings verdict shown ≡ changes_words verdict.changes verdict.partners
    verdict.least ++ (codes ", " ++ (busiest_words verdict.busiest ++ (standing_words verdict.standing ++ shown_words settings shown)))
unfolding note_text
note_is settings verdict shown =
    let words = changes_words verdict.changes verdict.partners verdict.least in
    append_assoc (words ++ codes ", " ++ busiest_words verdict.busiest) (standing_words verdict.standing) (shown_words settings shown)
    ∙ append_assoc (words ++ codes ", ") (busiest_words verdict.busiest) (standing_words verdict.standing ++ shown_words settings shown)
    ∙ append_assoc words (codes ", ") (busiest_words verdict.busiest ++ (standing_words verdict.standing ++ shown_words settings shown))

abbrev title_words : List Transfer → ℕ → Verdict → List ℕ
title_words batch settings verdict = heading_text (length batch) settings verdict.fewest ++ codes ", " ++ changes_words verdict.changes verdict.partners
    verdict.least

title_so : (batch : List Transfer) (settings : ℕ) (verdict : Verdict) (shown : ShownSettings) → IsPartOf (title_words batch settings verdict)
    (title_part batch settings verdict shown)
unfolding title_part
title_so batch settings verdict shown =
    let size = size_text (width_of shown.count) (height_of batch shown.count) in
    let heading = heading_text (length batch) settings verdict.fewest in
    let more = codes ", " ++ (busiest_words verdict.busiest ++ (standing_words verdict.standing ++ shown_words settings shown)) in
    subst (λ (note : List ℕ). IsPartOf (title_words batch settings verdict) (size ++ heading ++ codes ", " ++ note ++ codes "</title>\n"))
    (sym (note_is settings verdict shown))
    (title_there size heading (codes ", ") (changes_words verdict.changes verdict.partners verdict.least) more (codes "</title>\n"))

opening_so : (batch : List Transfer) (settings : ℕ) (verdict : Verdict) (shown : ShownSettings) → IsPartOf (title_words batch settings verdict)
    (opening_text batch settings verdict shown)
unfolding opening_text
opening_so batch settings verdict shown =
    stands_before _ (title_part batch settings verdict shown ++ style_text) (caption_part batch settings verdict shown)
    (stands_before _ (title_part batch settings verdict shown) style_text (title_so batch settings verdict shown))

picture_so : (part opening rows headings columns closing : List ℕ) → IsPartOf part opening → IsPartOf part (opening ++ rows ++ headings ++ columns ++ closing)
picture_so part opening rows headings columns closing s =
    stands_before part (opening ++ rows ++ headings ++ columns) closing
    (stands_before part (opening ++ rows ++ headings) columns (stands_before part (opening ++ rows) headings (stands_before part opening rows s)))

titled : (batch : List Transfer) (settings : List (List ℕ)) (named : Option Naming) (verdict : Verdict) (shown : ShownSettings) → IsBatch batch
    → IsVerdict batch settings named verdict → IsTitled batch settings (picture_of batch settings verdict shown)
titled batch settings named verdict shown fits known = record {
  fewest = verdict.fewest;
  partners = verdict.partners;
  least = verdict.least;
  stands = subst
      (λ (n : ℕ). IsPartOf (heading_text (length batch) (length settings) verdict.fewest ++ codes ", " ++ changes_words n verdict.partners verdict.least)
      (picture_of batch settings verdict shown))
      known.counted (picture_so (title_words batch (length settings) verdict) (opening_text batch (length settings) verdict shown)
      (rows_text batch shown.count verdict.busiest) (headings_text batch shown.count) (columns_text batch settings shown) (closing_text batch shown.count)
      (opening_so batch (length settings) verdict shown));
  are_fewest = tells_fewest batch settings named verdict known;
  needed = λ other is. needed batch settings other named verdict fits known is;
}

columns_there : (batch : List Transfer) (settings : List (List ℕ)) (verdict : Verdict) (shown : ShownSettings) → IsPartOf (columns_text batch settings shown)
    (picture_of batch settings verdict shown)
columns_there batch settings verdict shown =
    let before = opening_text batch (length settings) verdict shown ++ rows_text batch shown.count verdict.busiest ++ headings_text batch shown.count in
    (before, closing_text batch shown.count, append_assoc before (columns_text batch settings shown) (closing_text batch shown.count))

pub drawn_so : (text other : List ℕ) (chosen : Option Text) (least : ℕ) (printed : Printed) → printed.status ≡ DONE → IsDrawnWith widest text other chosen least
    printed → HasDrawn text other chosen printed.text
drawn_so text other chosen least printed status (drawn d so_many done) =
    let reads = d.valid.read.texts.batch_read in
    let named = d.valid.read.certificate in
    let fits : IsBatch d.transfers = record { few = reads.few; within = reads.within } in
    let picture = sym d.drawing in
    record {
      transfers = d.transfers;
      settings = d.settings;
      range = d.range;
      shown = d.shown;
      read = d.valid.read;
      wanted = d.wanted;
      are_shown = d.are_shown;
      titled = subst (IsTitled d.transfers d.settings) picture
          (titled d.transfers d.settings named d.verdict d.shown fits d.valid.known);
      columns = subst (IsPartOf (columns_text d.transfers d.settings d.shown)) picture (columns_there d.transfers d.settings d.verdict d.shown);
      apart = overlapping d.transfers d.settings d.shown fits d.valid.read.valid;
    }
drawn_so text other chosen least printed status (undrawn refusal wrong line) = absurd (never_done printed.status line.status status)

-- ---- prices

pub priced_so : (text other : List ℕ) (printed : Printed) → printed.status ≡ DONE → IsPriced widest text other printed → HasPriced text other printed.text
priced_so text other printed status (priced transfers settings read says done) =
    let reads = read.texts.batch_read in
    let table = says.priced in
    record {
      transfers = transfers;
      settings = settings;
      read = read;
      prices = says;
      needed = needed_by transfers (length settings) table.prices.items table.top table.changes (record { few = reads.few; within = reads.within })
          says.table.show;
    }
priced_so text other printed status (unpriced refusal wrong line) = absurd (never_done printed.status line.status status)
