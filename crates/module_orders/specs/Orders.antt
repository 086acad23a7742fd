-- What each module of a rack does in the settings of a schedule. That a module copies a block aside
-- only where another transfer changes it too soon is this project's choice.
use Rattle.std.specs.Prelude.{ℕ, Bool, true, false, not, ◌+◌, ◌<◌, ◌==◌, ◌&&◌, List, ◌++◌, map}
use Rattle.std.specs.Prelude.{filter, take, length, nat_lt, All, Option, None, Some, if◌then◌else◌}
use Rattle.std.specs.List.{concat, flat_map, list_any, range_with_len}
use Rattle.batch.specs.Held.{same_place}
use Rattle.batch.specs.Places.{source_of, destination_of}
use Rattle.batch.specs.declared.limits.TheConstants.{MAX_BLOCKS, MAX_MODULES}
use Rattle.batch.specs.declared.transfer.Kind.{Kind}
use Rattle.batch.specs.declared.transfer.Kind.TheVariants.{Push, Pull}
use Rattle.batch.specs.declared.transfer.Place.{Place}
use Rattle.batch.specs.declared.transfer.Transfer.{Transfer}
use Rattle.link_graph.specs.Counts.{module_at}
use Rattle.link_graph.specs.declared.link.End.{End}
use Rattle.link_graph.specs.declared.link.End.TheVariants.{Zero, Three}
use Rattle.module_memory.specs.Core.{setting_of}
use Rattle.switch_settings.specs.Settings.{numbers_in}
use Rattle.module_orders.specs.declared.order.Act.{Act}
use Rattle.module_orders.specs.declared.order.Act.TheVariants.{Send, SendCopy, Receive}
use Rattle.module_orders.specs.declared.order.Order.{Order}

-- what a module is told: its number, and its orders
pub record ModuleTold : Type 0 where
  pub «module» : ℕ
  pub orders : List Order

-- what the modules of a rack are told: how many settings there are, and each module its orders
pub record RackTold : Type 0 where
  pub settings : ℕ
  pub modules : List ModuleTold

abbrev pub module_told : ℕ → List Order → ModuleTold
module_told m orders = record { «module» = m; orders = orders }

abbrev pub rack_told : ℕ → List ModuleTold → RackTold
rack_told settings modules = record { settings = settings; modules = modules }

-- ---- which blocks are changed

-- the transfer changes the block: it writes it, and reads another
abbrev pub changes : Transfer → Place → Bool
changes t p = same_place (destination_of t) p && not (same_place (source_of t) p)

-- one of the transfers changes the block
abbrev pub changed_by : List Transfer → Place → Bool
changed_by ts p = list_any (λ t. changes t p) ts

-- the block is changed in setting k, or in one before it
abbrev pub is_changed : List Transfer → List (List ℕ) → ℕ → Place → Bool
is_changed batch settings k p = changed_by (setting_of batch (concat (take (k + 1) settings))) p

-- ---- the orders of a module

-- what the module does over its link of this end: the end that a push or a pull sends from does
-- this, and the other receives
abbrev pub act_at : End → Kind → Act → Act
act_at Zero Push sending = sending
act_at Zero Pull sending = Receive
act_at Three Push sending = Receive
act_at Three Pull sending = sending

-- its block in the transfer
abbrev pub block_at : End → Transfer → ℕ
block_at Zero t = t.own_block
block_at Three t = t.far_block

-- what is sent: the block, or its copy where it may have been changed by then
abbrev pub sending : Bool → Act
sending late = if late then SendCopy else Send

-- the order that a transfer of setting k gives the module at this end
abbrev pub order_at : Bool → ℕ → End → Transfer → Order
order_at late k end t =
    record {
      setting = k;
      end = end;
      act = act_at end t.kind (sending late);
      block = block_at end t;
    }

-- the orders of module m over its link of this end, of transfers of setting k, where these blocks
-- are changed
abbrev pub orders_over : (Place → Bool) → ℕ → End → List Transfer → ℕ → List Order
orders_over changed k end ts m =
    map (λ t. order_at (changed (source_of t)) k end t) (filter (λ t. module_at end t == m) ts)

-- the orders of module m in setting k: that over link 0, and that over link 3
abbrev pub orders_in : List Transfer → List (List ℕ) → ℕ → ℕ → List Order
orders_in batch settings m k =
    let ts = setting_of batch (numbers_in settings k) in
    orders_over (is_changed batch settings k) k Zero ts m
    ++ orders_over (is_changed batch settings k) k Three ts m

-- its orders in the first settings, so many of them, setting by setting
abbrev pub orders_before : List Transfer → List (List ℕ) → ℕ → ℕ → List Order
orders_before batch settings count m =
    flat_map (orders_in batch settings m) (range_with_len 0 count)

-- so many modules as a rack may have, with these orders
unfoldable pub all_modules : (ℕ → List Order) → List ModuleTold
all_modules orders = map (λ m. module_told m (orders m)) (range_with_len 0 MAX_MODULES)

-- the orders of all modules in all settings
unfoldable pub orders_of : List Transfer → List (List ℕ) → RackTold
orders_of batch settings =
    rack_told (length settings) (all_modules (orders_before batch settings (length settings)))

-- ---- the copies

abbrev pub is_copy : Act → Bool
is_copy Send = false
is_copy SendCopy = true
is_copy Receive = false

-- the order sends the copy of the block
abbrev pub sends_copy : ℕ → Order → Bool
sends_copy b order = is_copy order.act && order.block == b

-- one of the orders sends the copy of the block
abbrev pub is_copied : List Order → ℕ → Bool
is_copied orders b = list_any (sends_copy b) orders

-- the blocks that a module with these orders copies aside before the first setting, ascending
unfoldable pub copies_in : List Order → List ℕ
copies_in orders = filter (is_copied orders) (range_with_len 0 MAX_BLOCKS)

-- the orders are of blocks that a module may have
abbrev pub HaveBlocks : List Order → Type 0
HaveBlocks orders = All (λ order. order.block < MAX_BLOCKS) orders

-- ---- who is told

-- the module is asked for, where one alone is
abbrev pub is_asked : Option ℕ → ℕ → Bool
is_asked None m = true
is_asked (Some only) m = m == only

-- the module has orders, and is asked for
abbrev pub is_told : Option ℕ → ModuleTold → Bool
is_told only told = nat_lt 0 (length told.orders) && is_asked only told.«module»

-- what is told of the modules that have orders, or of one alone
abbrev pub told_to : Option ℕ → RackTold → RackTold
told_to only told = rack_told told.settings (filter (is_told only) told.modules)
