-- The text of orders, and what a text says. The form is this project's choice.
use Rattle.std.specs.Prelude.{◌≡◌, ℕ, List, [], ◌∷◌, ◌++◌, length, map, All, String, string_bytes}
use Rattle.std.specs.Prelude.{codes}
use Rattle.std.specs.Fmt.{decimal}
use Rattle.std.specs.List.{flat_map}
use Rattle.batch.specs.Text.{IsNumber, line_feed}
use Rattle.link_graph.specs.ScheduleText.{end_number, text_of}
use Rattle.module_orders.specs.Orders.{ModuleTold, RackTold, copies_in}
use Rattle.module_orders.specs.declared.order.Act.{Act}
use Rattle.module_orders.specs.declared.order.Act.TheVariants.{Send, SendCopy, Receive}
use Rattle.module_orders.specs.declared.order.Order.{Order}

-- ---- lines, without their line feeds

-- `modules N settings S`
abbrev pub modules_line : ℕ → ℕ → List ℕ
modules_line modules settings =
    codes "modules " ++ decimal modules ++ codes " settings " ++ decimal settings

-- `module M copies C orders N`
abbrev pub module_line : ℕ → ℕ → ℕ → List ℕ
module_line m copies orders =
    codes "module " ++ decimal m ++ codes " copies " ++ decimal copies ++ codes " orders "
    ++ decimal orders

-- `copy block B`
abbrev pub copy_line : ℕ → List ℕ
copy_line block = codes "copy block " ++ decimal block

abbrev pub act_words : Act → List ℕ
act_words Send = codes "send block"
act_words SendCopy = codes "send copy"
act_words Receive = codes "receive block"

-- `setting S link E send block B`, `setting S link E send copy B` or
-- `setting S link E receive block B`
abbrev pub order_line : Order → List ℕ
order_line order =
    codes "setting " ++ decimal order.setting ++ codes " link " ++ decimal (end_number order.end)
    ++ codes " " ++ act_words order.act ++ codes " " ++ decimal order.block

-- ---- the text

-- the line of a module, its copies, and its orders
abbrev pub told_lines : ModuleTold → List (List ℕ)
told_lines told =
    module_line told.«module» (length (copies_in told.orders)) (length told.orders)
    ∷ (map copy_line (copies_in told.orders) ++ map order_line told.orders)

-- the line that counts the modules and the settings, and the lines of the modules
abbrev pub orders_lines : RackTold → List (List ℕ)
orders_lines told =
    modules_line (length told.modules) told.settings ∷ flat_map told_lines told.modules

-- the one text of what is told
unfoldable pub orders_text : RackTold → List ℕ
orders_text told = text_of (orders_lines told)

-- the new text is the old with these bytes at its end
abbrev pub Adds : {Z : Type 0} → String Z → String Z → List ℕ → Type 0
Adds old new more = string_bytes new ≡ string_bytes old ++ more

-- a line with its line feed
abbrev pub ended : List ℕ → List ℕ
ended line = line ++ line_feed ∷ []

-- ---- what a text can say

-- the numbers of the order are numbers of a text
pub record CanSpell (order : Order) : Type 0 where
  pub setting : IsNumber order.setting
  pub block : IsNumber order.block

-- so are those of a module
pub record CanTell (told : ModuleTold) : Type 0 where
  pub number : IsNumber told.«module»
  pub many : IsNumber (length told.orders)
  pub orders : All CanSpell told.orders

-- the text says this, and it can be said
pub record Tells (text : List ℕ) (told : RackTold) : Type 0 where
  pub spelled : text ≡ orders_text told
  pub count : IsNumber (length told.modules)
  pub settings : IsNumber told.settings
  pub modules : All CanTell told.modules
