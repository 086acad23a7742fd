-- The cells of a picture. A transfer that is shown has two, in the column of its setting: one in
-- the row of its initiator, in the half of link 0, and one in the row of its responder, in the half
-- of link 3. Each has the number and the colour of the module at the other end.
use Rattle.std.specs.Prelude.{ℕ, ◌+◌, List, ◌++◌, codes}
use Rattle.std.specs.Fmt.{decimal}
use Rattle.std.specs.List.{flat_map}
use Rattle.batch.specs.declared.transfer.Kind.{Kind}
use Rattle.batch.specs.declared.transfer.Kind.TheVariants.{Push, Pull}
use Rattle.batch.specs.declared.transfer.Transfer.{Transfer}
use Rattle.batch.specs.Overlap.{transfer_at}
use Rattle.link_graph.specs.declared.link.End.{End}
use Rattle.link_graph.specs.declared.link.End.TheVariants.{Zero, Three}
use Rattle.link_graph.specs.Links.{other_end}
use Rattle.link_graph.specs.ScheduleText.{end_number}
use Rattle.link_graph.specs.Counts.{module_at}
use Rattle.schedule_picture.specs.declared.layout.TheConstants.{INSET, CELL_WIDTH}
use Rattle.schedule_picture.specs.declared.layout.TheConstants.{CELL_HEIGHT}
use Rattle.schedule_picture.specs.Places.{panel_of, panel_place, row_place, half_place}
use Rattle.schedule_picture.specs.Places.{column_place}
use Rattle.schedule_picture.specs.Elements.{coloured_box, text_start}

abbrev pub kind_label : Kind → List ℕ
kind_label Push = codes "push"
kind_label Pull = codes "pull"

-- a push goes to its responder, a pull fetches from it
abbrev pub way_of : Kind → List ℕ
way_of Push = codes " to "
way_of Pull = codes " from "

-- `module M link E block B`
unfoldable pub end_label : ℕ → End → ℕ → List ℕ
end_label m end block =
    codes "module " ++ decimal m ++ codes " link " ++ decimal (end_number end) ++ codes " block "
    ++ decimal block

-- the title: the transfer's number, its word, and both places, the initiator's first
unfoldable pub title_text : ℕ → Transfer → List ℕ
title_text t x =
    codes "<g><title>transfer " ++ decimal t ++ codes ": " ++ kind_label x.kind ++ codes " "
    ++ end_label x.initiator Zero x.own_block ++ way_of x.kind
    ++ end_label x.responder Three x.far_block ++ codes "</title>"

abbrev pub to_partner : List ℕ
to_partner = codes "&#8594;"

abbrev pub from_partner : List ℕ
from_partner = codes "&#8592;"

-- whether the words leave the module at this end: a push moves them from the initiator to the
-- responder, a pull the other way
abbrev pub arrow_of : Kind → End → List ℕ
arrow_of Push Zero = to_partner
arrow_of Push Three = from_partner
arrow_of Pull Zero = from_partner
arrow_of Pull Three = to_partner

-- where the half of a row stands that is for an end of a transfer in column j, from the top
abbrev pub half_top : List Transfer → ℕ → Transfer → End → ℕ
half_top batch j x end = row_place batch (panel_of j) (module_at end x) + half_place end

-- where the cells of column j begin, from the left
abbrev pub cell_left : ℕ → ℕ
cell_left j = column_place j + INSET

-- where the cell at an end of a transfer in column j begins, from the top
abbrev pub cell_top : List Transfer → ℕ → Transfer → End → ℕ
cell_top batch j x end = half_top batch j x end + INSET

-- the module at the other end
abbrev pub partner_of : Transfer → End → ℕ
partner_of x end = module_at (other_end end) x

-- the number of a transfer, below the other module's in its cell
unfoldable pub number_text : ℕ → ℕ → ℕ → List ℕ
number_text left top t =
    codes "<text class='transfer' x='" ++ decimal left ++ codes "' y='" ++ decimal top
    ++ codes "'>" ++ decimal t ++ codes "</text></g>\n"

-- the cell at an end of transfer t, in column j
unfoldable pub cell_text : List Transfer → ℕ → ℕ → Transfer → End → List ℕ
cell_text batch j t x end = title_text t x
    ++ coloured_box (partner_of x end) (cell_left j) (cell_top batch j x end) CELL_WIDTH CELL_HEIGHT
    ++ text_start (column_place j + 16) (half_top batch j x end + 14) ++ arrow_of x.kind end
    ++ decimal (partner_of x end) ++ codes "</text>"
    ++ number_text (column_place j + 16) (half_top batch j x end + 24) t

-- both cells of transfer t
unfoldable pub transfer_cells : List Transfer → ℕ → ℕ → List ℕ
transfer_cells batch j t =
    cell_text batch j t (transfer_at batch t) Zero
    ++ cell_text batch j t (transfer_at batch t) Three

-- column j: the number k of its setting above it, and the cells of the setting's transfers
unfoldable pub column_text : List Transfer → ℕ → ℕ → List ℕ → List ℕ
column_text batch j k setting =
    codes "<text class='number' x='" ++ decimal (column_place j + 16) ++ codes "' y='"
    ++ decimal (panel_place batch (panel_of j) + 14) ++ codes "'>" ++ decimal k ++ codes "</text>\n"
    ++ flat_map (λ t. transfer_cells batch j t) setting
