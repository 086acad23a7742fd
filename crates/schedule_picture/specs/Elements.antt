-- The elements of SVG that a picture is made of.
use Rattle.std.specs.Prelude.{ℕ, ◌≡◌, List, ◌++◌, codes, String, string_bytes}
use Rattle.std.specs.Fmt.{decimal}
use Rattle.link_graph.specs.declared.link.Link.{Link}
use Rattle.link_graph.specs.ScheduleText.{end_number}

-- the place and the size of a rectangle, and its end
unfoldable pub box_text : ℕ → ℕ → ℕ → ℕ → List ℕ
box_text left top width height =
    codes " x='" ++ decimal left ++ codes "' y='" ++ decimal top ++ codes "' width='"
    ++ decimal width ++ codes "' height='" ++ decimal height ++ codes "'/>"

-- a rectangle in the colour of a module
unfoldable pub coloured_box : ℕ → ℕ → ℕ → ℕ → ℕ → List ℕ
coloured_box m left top width height =
    codes "<rect class='m" ++ decimal m ++ codes "'" ++ box_text left top width height

-- the beginning of a text, before its words
unfoldable pub text_start : ℕ → ℕ → List ℕ
text_start left top =
    codes "<text x='" ++ decimal left ++ codes "' y='" ++ decimal top ++ codes "'>"

-- `link E module M`
unfoldable pub link_label : Link → List ℕ
link_label link =
    codes "link " ++ decimal (end_number link.end) ++ codes " module " ++ decimal link.«module»

-- these bytes were put at the end of a text
abbrev pub Adds : {Z : Type 0} → String Z → String Z → List ℕ → Type 0
Adds old new more = string_bytes new ≡ string_bytes old ++ more
