-- The picture of a schedule: the text of an SVG file.
use Rattle.std.specs.Prelude.{ℕ, ◌+◌, ◌-◌, ◌==◌, if◌then◌else◌, List, [], ◌++◌, length, Option}
use Rattle.std.specs.Prelude.{Some, None, codes}
use Rattle.std.specs.Fmt.{decimal}
use Rattle.std.specs.List.{flat_map, range_with_len}
use Rattle.batch.specs.declared.transfer.Transfer.{Transfer}
use Rattle.link_graph.specs.declared.link.Link.{Link}
use Rattle.schedule_picture.specs.declared.shown.ShownSettings.{ShownSettings}
use Rattle.schedule_picture.specs.declared.verdict.CertificateStatus.{CertificateStatus}
use Rattle.schedule_picture.specs.declared.verdict.CertificateStatus.TheVariants.{Certified, Wrong}
use Rattle.schedule_picture.specs.declared.verdict.CertificateStatus.TheVariants.{Missing}
use Rattle.schedule_picture.specs.declared.verdict.Verdict.{Verdict}
use Rattle.schedule_picture.specs.declared.style.TheConstants.{STYLE, EXPLAINED}
use Rattle.schedule_picture.specs.Places.{rack_modules, legend_place, height_of, width_of}
use Rattle.schedule_picture.specs.Elements.{link_label}
use Rattle.schedule_picture.specs.Cells.{column_text}
use Rattle.schedule_picture.specs.RowsText.{row_text, headings_text}
use Rattle.schedule_picture.specs.Rules.{changes_at, rule_text}
use Rattle.steady_schedule.specs.Needs.{setting_at}

-- `, the fewest`, or how many are enough
unfoldable pub length_words : ℕ → ℕ → List ℕ
length_words settings fewest =
    if settings == fewest then codes ", the fewest"
    else if fewest == 1 then codes ", where 1 is enough"
    else codes ", where " ++ decimal fewest ++ codes " are enough"

-- the heading: `transfers N, settings S`, and whether there are more than are enough
unfoldable pub heading_text : ℕ → ℕ → ℕ → List ℕ
heading_text transfers settings fewest =
    codes "transfers " ++ decimal transfers ++ codes ", settings " ++ decimal settings
    ++ length_words settings fewest

-- whether no schedule has fewer changes, or none with so few settings, or how many are shown
unfoldable pub bound_words : ℕ → ℕ → ℕ → List ℕ
bound_words changes partners least =
    if changes == partners then codes ", the fewest"
    else if changes == least then codes ", the fewest with so few settings"
    else codes ", at least " ++ decimal least

-- `changes N`, and what is shown of these
unfoldable pub changes_words : ℕ → ℕ → ℕ → List ℕ
changes_words changes partners least =
    codes "changes " ++ decimal changes ++ bound_words changes partners least

-- `busiest link E module M`, or `busiest none` where no link is named
abbrev pub busiest_words : Option Link → List ℕ
busiest_words None = codes "busiest none"
busiest_words (Some link) = codes "busiest " ++ link_label link

-- how the certificate stands
abbrev pub standing_words : CertificateStatus → List ℕ
standing_words Certified = codes ", certified"
standing_words Wrong = codes ", not certified"
standing_words Missing = codes ", no certificate"

-- which settings are shown, where these aren't all
unfoldable pub shown_words : ℕ → ShownSettings → List ℕ
shown_words settings shown =
    if shown.count == settings then []
    else if shown.count == 1 then codes ", setting " ++ decimal shown.first ++ codes " shown"
    else codes ", shown " ++ decimal shown.first ++ codes " to "
    ++ decimal (shown.first + shown.count - 1)

-- what stands below the heading: how often the switch changes, the busiest link, how the
-- certificate stands, and which settings are shown
unfoldable pub note_text : ℕ → Verdict → ShownSettings → List ℕ
note_text settings verdict shown =
    changes_words verdict.changes verdict.partners verdict.least ++ codes ", "
    ++ busiest_words verdict.busiest
    ++ standing_words verdict.standing ++ shown_words settings shown

-- the looks of everything
unfoldable pub style_text : List ℕ
style_text = STYLE.now

-- what the signs mean
unfoldable pub explained_text : List ℕ
explained_text = EXPLAINED.now

-- the size, before the title's words
unfoldable pub size_text : ℕ → ℕ → List ℕ
size_text width height =
    codes "<svg xmlns='http://www.w3.org/2000/svg' width='" ++ decimal width ++ codes "' height='"
    ++ decimal height ++ codes "' viewBox='0 0 " ++ decimal width ++ codes " " ++ decimal height
    ++ codes "'>\n<title>"

-- the white ground, before the heading's words
unfoldable pub ground_text : ℕ → ℕ → List ℕ
ground_text width height =
    codes "<rect class='paper' width='" ++ decimal width ++ codes "' height='" ++ decimal height
    ++ codes "'/>\n<text class='heading' x='16' y='36'>"

-- the size and the title
unfoldable pub title_part : List Transfer → ℕ → Verdict → ShownSettings → List ℕ
title_part batch settings verdict shown =
    size_text (width_of shown.count) (height_of batch shown.count)
    ++ heading_text (length batch) settings verdict.fewest ++ codes ", "
    ++ note_text settings verdict shown ++ codes "</title>\n"

-- the ground, and on it the heading and the note below that
unfoldable pub caption_part : List Transfer → ℕ → Verdict → ShownSettings → List ℕ
caption_part batch settings verdict shown =
    ground_text (width_of shown.count) (height_of batch shown.count)
    ++ heading_text (length batch) settings verdict.fewest
    ++ codes "</text>\n<text class='note' x='16' y='58'>" ++ note_text settings verdict shown
    ++ codes "</text>\n"

-- what stands before the rows
unfoldable pub opening_text : List Transfer → ℕ → Verdict → ShownSettings → List ℕ
opening_text batch settings verdict shown =
    title_part batch settings verdict shown ++ style_text
    ++ caption_part batch settings verdict shown

-- what stands after the columns: the legend, below the panels
unfoldable pub closing_text : List Transfer → ℕ → List ℕ
closing_text batch columns =
    codes "<g transform='translate(16," ++ decimal (legend_place batch columns) ++ codes ")'>\n"
    ++ explained_text ++ codes "</g>\n</svg>\n"

-- the rows of the modules that take part, in their order, with so many columns
unfoldable pub rows_text : List Transfer → ℕ → Option Link → List ℕ
rows_text batch columns busiest =
    flat_map (row_text batch columns busiest) (range_with_len 0 rack_modules)

-- setting k in column j: the rule where the switch changes for it, and the column
unfoldable pub setting_text : List Transfer → List (List ℕ) → ℕ → ℕ → List ℕ
setting_text batch settings j k =
    rule_text batch j (changes_at batch settings k)
    ++ column_text batch j k (setting_at settings k)

-- the settings that are shown, in their order
unfoldable pub columns_text : List Transfer → List (List ℕ) → ShownSettings → List ℕ
columns_text batch settings shown =
    flat_map (λ j. setting_text batch settings j (shown.first + j)) (range_with_len 0 shown.count)

-- the rows, the headings of the columns, rules and columns of cells over the rows, and the legend
-- below
abbrev pub picture_of : List Transfer → List (List ℕ) → Verdict → ShownSettings → List ℕ
picture_of batch settings verdict shown =
    opening_text batch (length settings) verdict shown
    ++ rows_text batch shown.count verdict.busiest ++ headings_text batch shown.count
    ++ columns_text batch settings shown ++ closing_text batch shown.count

-- all settings
abbrev pub all_shown : ℕ → ShownSettings
all_shown settings = record { first = 0; count = settings }
