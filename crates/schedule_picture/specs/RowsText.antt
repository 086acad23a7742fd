-- The rows of a picture: in each panel the label of the module, in its colour, and for each of its
-- two links the ground on which the cells stand.
use Rattle.std.specs.Prelude.{ℕ, ◌+◌, Bool, true, false, ◌==◌, ◌&&◌, if◌then◌else◌, List, []}
use Rattle.std.specs.Prelude.{◌++◌, Option, Some, None, codes}
use Rattle.std.specs.Fmt.{decimal}
use Rattle.std.specs.List.{flat_map, range_with_len}
use Rattle.batch.specs.declared.transfer.Transfer.{Transfer}
use Rattle.link_graph.specs.declared.link.End.TheVariants.{Zero, Three}
use Rattle.link_graph.specs.declared.link.Link.{Link}
use Rattle.link_graph.specs.ScheduleText.{end_number}
use Rattle.schedule_picture.specs.declared.layout.TheConstants.{MARGIN, LABEL_WIDTH, HALF_HEIGHT}
use Rattle.schedule_picture.specs.Places.{takes_part, row_place, half_place, panels_of, panel_place}
use Rattle.schedule_picture.specs.Places.{panel_width}
use Rattle.schedule_picture.specs.Elements.{box_text, coloured_box, text_start, link_label}
use Rattle.steady_schedule.specs.Bounds.{link_of}

-- this is the link that is framed
abbrev pub marks : Option Link → Link → Bool
marks None link = false
marks (Some busiest) link =
    end_number busiest.end == end_number link.end && busiest.«module» == link.«module»

-- `module M` on the module's colour
unfoldable pub label_text : ℕ → ℕ → List ℕ
label_text m top =
    coloured_box m (MARGIN + 8) top 72 56 ++ text_start (MARGIN + 44) (top + 32)
    ++ codes "module " ++ decimal m ++ codes "</text>\n"

-- the looks of a half of a row
abbrev pub looks_of : Bool → List ℕ
looks_of true = codes "<g class='busiest'><title>busiest "
looks_of false = codes "<g class='lane'><title>"

-- its title, before its ground
unfoldable pub lane_title : Bool → Link → List ℕ
lane_title marked link = looks_of marked ++ link_label link ++ codes "</title><rect"

-- the half of a link, whose row begins at the top: its ground, and the label `link E` before it
unfoldable pub lane_text : Bool → Link → ℕ → ℕ → List ℕ
lane_text marked link top width =
    lane_title marked link ++ box_text (MARGIN + LABEL_WIDTH) (top + half_place link.end) width
    HALF_HEIGHT
    ++ text_start (MARGIN + 104) (top + half_place link.end + 18) ++ codes "link "
    ++ decimal (end_number link.end) ++ codes "</text></g>\n"

-- the half of a link in a panel
unfoldable pub half_text : List Transfer → ℕ → Option Link → Link → ℕ → List ℕ
half_text batch columns busiest link panel =
    lane_text
    (marks busiest link) link (row_place batch panel link.«module») (panel_width columns panel)

-- the part of a module's row that stands in a panel
unfoldable pub part_text : List Transfer → ℕ → Option Link → ℕ → ℕ → List ℕ
part_text batch columns busiest m panel =
    label_text m (row_place batch panel m)
    ++ half_text batch columns busiest (link_of Zero m) panel
    ++ half_text batch columns busiest (link_of Three m) panel

-- the row of a module, where it takes part
abbrev pub row_text : List Transfer → ℕ → Option Link → ℕ → List ℕ
row_text batch columns busiest m =
    if takes_part batch m
    then flat_map (part_text batch columns busiest m) (range_with_len 0 (panels_of columns))
    else []

-- `setting`, before the numbers of a panel's columns
unfoldable pub heading_at : List Transfer → ℕ → List ℕ
heading_at batch panel =
    codes "<text class='number' x='" ++ decimal (MARGIN + 104) ++ codes "' y='"
    ++ decimal (panel_place batch panel + 14) ++ codes "'>setting</text>\n"

-- that heading in each panel that so many columns fill
unfoldable pub headings_text : List Transfer → ℕ → List ℕ
headings_text batch columns = flat_map (heading_at batch) (range_with_len 0 (panels_of columns))
