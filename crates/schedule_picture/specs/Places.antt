-- Which module has which row of a picture, which setting which column, and where these stand. The
-- layout is this project's choice.
use Rattle.std.specs.Prelude.{ℕ, ◌≡◌, ◌<◌, ◌+◌, ◌-◌, ◌*◌, ◌/◌, ◌%◌, min, max, Bool, false, ◌==◌}
use Rattle.std.specs.Prelude.{◌||◌, List, slice_index_or}
use Rattle.std.specs.List.{list_any}
use Rattle.batch.specs.declared.limits.TheConstants.{MAX_MODULES}
use Rattle.batch.specs.declared.transfer.Transfer.{Transfer}
use Rattle.link_graph.specs.declared.link.End.{End}
use Rattle.link_graph.specs.declared.link.End.TheVariants.{Zero, Three}
use Rattle.link_graph.specs.Counts.{count_below}
use Rattle.schedule_picture.specs.declared.layout.TheConstants.{MARGIN, HEAD_HEIGHT}
use Rattle.schedule_picture.specs.declared.layout.TheConstants.{PANEL_COLUMNS, NUMBERS_HEIGHT}
use Rattle.schedule_picture.specs.declared.layout.TheConstants.{LABEL_WIDTH, COLUMN_WIDTH}
use Rattle.schedule_picture.specs.declared.layout.TheConstants.{ROW_HEIGHT, HALF_HEIGHT}
use Rattle.schedule_picture.specs.declared.layout.TheConstants.{LEGEND_HEIGHT, MIN_WIDTH}

-- ---- rows

-- the module starts one of the transfers, or answers one
abbrev pub takes_part : List Transfer → ℕ → Bool
takes_part batch m = list_any (λ (x : Transfer). x.initiator == m || x.responder == m) batch

-- Only modules that take part have rows, in the order of their numbers: the place of a module's row
-- is how many modules before it take part.
abbrev pub row_of : List Transfer → ℕ → ℕ
row_of batch m = count_below m (takes_part batch)

-- a row has two halves: that of link 0 above, and that of link 3 below it
abbrev pub half_place : End → ℕ
half_place Zero = 0
half_place Three = HALF_HEIGHT

-- how many modules a rack may have; a name for the number, so that nothing counts up to it
unfoldable pub rack_modules : ℕ
rack_modules = MAX_MODULES

-- ---- panels and columns

-- The settings that are shown have columns, in their order, which are counted from 0. As many as a
-- panel has stand side by side, and the next ones in a panel below, which has all rows again.
abbrev pub panel_of : ℕ → ℕ
panel_of j = j / PANEL_COLUMNS

-- where column j begins, from the left
unfoldable pub column_place : ℕ → ℕ
column_place j = MARGIN + LABEL_WIDTH + (j % PANEL_COLUMNS) * COLUMN_WIDTH

-- how many panels so many columns fill, the last of them perhaps in part
abbrev pub panels_of : ℕ → ℕ
panels_of columns = (columns + PANEL_COLUMNS - 1) / PANEL_COLUMNS

-- how wide the columns of a panel are together
unfoldable pub panel_width : ℕ → ℕ → ℕ
panel_width columns panel = COLUMN_WIDTH * min PANEL_COLUMNS (columns - panel * PANEL_COLUMNS)

-- the height of a panel: the numbers of its columns, and the rows of all modules that take part
unfoldable pub panel_height : List Transfer → ℕ
panel_height batch = NUMBERS_HEIGHT + row_of batch rack_modules * ROW_HEIGHT

-- where a panel begins, from the top, and the one before it ends
unfoldable pub panel_place : List Transfer → ℕ → ℕ
panel_place batch panel = HEAD_HEIGHT + panel * panel_height batch

-- where the row of a module begins in a panel, from the top
unfoldable pub row_place : List Transfer → ℕ → ℕ → ℕ
row_place batch panel m = panel_place batch panel + NUMBERS_HEIGHT + row_of batch m * ROW_HEIGHT

-- where the legend begins, below the panels of so many columns
abbrev pub legend_place : List Transfer → ℕ → ℕ
legend_place batch columns = panel_place batch (panels_of columns)

abbrev pub height_of : List Transfer → ℕ → ℕ
height_of batch columns = legend_place batch columns + LEGEND_HEIGHT

-- a panel, or the legend where that is wider
unfoldable pub width_of : ℕ → ℕ
width_of columns = max MIN_WIDTH (2 * MARGIN + LABEL_WIDTH + min PANEL_COLUMNS columns *
    COLUMN_WIDTH)

-- ---- the table of rows

-- at the place of each module, whether it takes part
abbrev pub TakePart : List Transfer → List Bool → Type 0
TakePart batch parts = (m : ℕ) → m < MAX_MODULES → slice_index_or parts m false ≡ takes_part batch m
