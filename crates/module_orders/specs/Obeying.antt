-- The modules of a rack as they obey their orders: their blocks, what they copied aside, and the
-- words that pass over the links that a setting joins, one word at a time. This project's choice.
use Rattle.std.specs.Prelude.{◌≡◌, ◌≢◌, ℕ, suc, ◌<◌, ◌+◌, ◌==◌, ◌⊎◌, ◌&&◌, Bool, List, [], ◌∷◌}
use Rattle.std.specs.Prelude.{length, map, filter, All, Contains, slice_index, slice_index_or}
use Rattle.std.specs.Prelude.{slice_set, if◌then◌else◌}
use Rattle.std.specs.List.{flat_map, list_any}
use Rattle.batch.specs.declared.transfer.Place.{Place}
use Rattle.batch.specs.declared.transfer.Transfer.{Transfer}
use Rattle.crossbar.specs.declared.pair.Pair.{Pair}
use Rattle.link_graph.specs.Equal.{same_end}
use Rattle.link_graph.specs.declared.link.End.TheVariants.{Zero, Three}
use Rattle.link_graph.specs.declared.link.Link.{Link}
use Rattle.module_memory.specs.Core.{times}
use Rattle.module_memory.specs.Store.{Store, block_of, set_word}
use Rattle.switch_settings.specs.Settings.{setting_pairs}
use Rattle.module_orders.specs.Orders.{ModuleTold, RackTold, copies_in}
use Rattle.module_orders.specs.declared.order.Act.{Act}
use Rattle.module_orders.specs.declared.order.Act.TheVariants.{Send, SendCopy, Receive}
use Rattle.module_orders.specs.declared.order.Order.{Order}

-- the order is for this setting, and for this end of its module
abbrev pub is_for : ℕ → Link → Order → Bool
is_for k link order = order.setting == k && same_end order.end link.end

-- what a module of this number is told
abbrev pub orders_to : ℕ → ModuleTold → List Order
orders_to m told = if told.«module» == m then told.orders else []

-- the orders of a link in a setting, each as often as its module is told it
unfoldable pub orders_for : RackTold → ℕ → Link → List Order
orders_for told k link = filter (is_for k link) (flat_map (orders_to link.«module») told.modules)

-- the link has the order in the setting
abbrev pub HasOrder : RackTold → ℕ → Link → Order → Type 0
HasOrder told k link order = Contains (orders_for told k link) order

-- ---- what is joined

-- the links that the switch joins for a pair: link 0 of the one module, link 3 of the other
abbrev pub first_end : Pair → Link
first_end pair = record { end = Zero; «module» = pair.initiator }

abbrev pub other_end : Pair → Link
other_end pair = record { end = Three; «module» = pair.responder }

-- ---- words

-- the module is told to copy the block aside
abbrev pub is_aside : RackTold → Place → Bool
is_aside told p =
    list_any
    (λ (one : ModuleTold). one.«module» == p.«module»
    && list_any (λ b. b == p.block) (copies_in one.orders))
    told.modules

-- what the modules have aside, which they copied before the first setting: nothing but what they
-- were told to
abbrev pub aside_of : RackTold → Store → Place → List ℕ
aside_of told opening p = if is_aside told p then block_of opening p else []

-- the block of an order, at the module of a link
abbrev pub block_there : Link → Order → Place
block_there link order = record { «module» = link.«module»; block = order.block }

-- the words that are sent of a block: as they are now, or as they were copied aside
abbrev pub words_sent : (Place → List ℕ) → Store → Act → Place → List ℕ
words_sent aside now Send p = block_of now p
words_sent aside now SendCopy p = aside p
words_sent aside now Receive p = []

-- Word j passes from one link to the other: the one's module has the order to send, and the other's
-- the order to receive. It is word j of what is sent, and becomes word j of the block that
-- receives.
pub record Passes (told : RackTold) (aside : Place → List ℕ) (k j : ℕ) (from to : Link)
    (old new : Store) : Type 0 where
  pub sent : Order
  pub received : Order
  pub sends : HasOrder told k from sent
  pub receives : HasOrder told k to received
  pub is_sent : sent.act ≢ Receive
  pub is_received : received.act ≡ Receive
  pub passed : new
      ≡ set_word old (block_there to received) j
      (slice_index (words_sent aside old sent.act (block_there from sent)) j)

-- word j passes between the links of a pair, one way or the other
abbrev pub PassesOver : RackTold → (Place → List ℕ) → ℕ → ℕ → Pair → Store → Store → Type 0
PassesOver told aside k j pair old new =
    Passes told aside k j (first_end pair) (other_end pair) old new
    ⊎ Passes told aside k j (other_end pair) (first_end pair) old new

-- ---- a setting, and all settings

-- what stands for a pair that isn't there
abbrev pub no_pair : Pair
no_pair = record { initiator = 0; responder = 0 }

-- Words pass between the pairs in this order, so many having passed between each before: of each
-- pair its next word.
abbrev pub PassInTurn : RackTold → (Place → List ℕ) → ℕ → List Pair → List ℕ → List ℕ → Store
    → Store → Type 0
PassInTurn told aside k pairs passed [] old new = new ≡ old
PassInTurn told aside k pairs passed (i ∷ steps) old new =
    (mid : Store)
    × PassesOver told aside k (slice_index passed i) (slice_index_or pairs i no_pair) old mid
    × PassInTurn told aside k pairs (slice_set passed i (slice_index passed i + 1)) steps mid new

-- each of so many pairs stands in the list as often as a block has words
pub record AreAllWords (pairs words : ℕ) (steps : List ℕ) : Type 0 where
  pub known : All (λ i. i < pairs) steps
  pub all : (i : ℕ) → i < pairs → times i steps ≡ words

-- the modules obey the orders of setting k: all words pass between the pairs, in some order
abbrev pub AreObeyedIn : RackTold → (Place → List ℕ) → ℕ → List Pair → Store → Store → Type 0
AreObeyedIn told aside k pairs old new =
    (steps : List ℕ) × AreAllWords (length pairs) old.shape.words steps
    × PassInTurn told aside k pairs (map (λ _. 0) pairs) steps old new

-- they obey those of one setting after another, from setting k on, each with its pairs
abbrev pub AreObeyedFrom : RackTold → (Place → List ℕ) → ℕ → List (List Pair) → Store → Store
    → Type 0
AreObeyedFrom told aside k [] old new = new ≡ old
AreObeyedFrom told aside k (pairs ∷ settings) old new =
    (mid : Store) × AreObeyedIn told aside k pairs old mid
    × AreObeyedFrom told aside (suc k) settings mid new

-- the modules of a rack obey all that they are told, over the links that the settings join: they
-- have copied aside what they were told to
abbrev pub AreObeyed : RackTold → List Transfer → List (List ℕ) → Store → Store → Type 0
AreObeyed told batch settings opening new =
    AreObeyedFrom told (aside_of told opening) 0 (map (setting_pairs batch) settings) opening new
