-- The blocks that modules copy aside.
use Rattle.std.proofs.Common.{ℕ, Bool, true, cond, [], ◌==◌, ◌&&◌, ◌≡◌, ◌<◌, List, refl, ap, ap₂, ◌∙◌, eq-eqb}
use Rattle.std.specs.Prelude.{Contains}
use Rattle.std.specs.List.{flat_map, list_any, range_with_len}
use Rattle.std.proofs.lemmas.Bool.{and_from}
use Rattle.batch.specs.Places.{source_of}
use Rattle.batch.specs.declared.limits.TheConstants.{MAX_BLOCKS}
use Rattle.batch.specs.declared.transfer.Kind.{Kind}
use Rattle.batch.specs.declared.transfer.Kind.TheVariants.{Push, Pull}
use Rattle.batch.specs.declared.transfer.Place.{Place}
use Rattle.batch.specs.declared.transfer.Transfer.{Transfer}
use Rattle.link_graph.specs.Counts.{module_at}
use Rattle.link_graph.specs.declared.link.End.{End}
use Rattle.link_graph.specs.declared.link.End.TheVariants.{Zero, Three}
use Rattle.link_graph.specs.declared.link.Link.{Link}
use Rattle.module_memory.specs.Store.{Store, block_of}
use Rattle.module_orders.specs.Obeying.{HasOrder, aside_of, is_aside, is_for, orders_for, orders_to}
use Rattle.module_orders.specs.Orders.{ModuleTold, RackTold, copies_in, is_copied, is_copy, order_at, sending, sends_copy}
use Rattle.module_orders.specs.declared.order.Act.TheVariants.{SendCopy}
use Rattle.module_orders.specs.declared.order.Order.{Order}
use Rattle.module_orders.proofs.Meeting.{in_orders_to, link_at}
use Rattle.module_orders.proofs.Members.{any_from, in_filter, in_flat_map, to_filter, to_range}

-- the end that sends a transfer's source
sender : Kind → End
sender Push = Zero
sender Pull = Three

sender_is : (kind : Kind) (i o r f : ℕ) (late : Bool) (k : ℕ) → let x : Transfer =
    record { kind = kind; initiator = i; own_block = o; responder = r; far_block = f } in
    let order = order_at late k (sender kind) x in (module_at (sender kind) x ≡ (source_of x).«module») × (order.block ≡ (source_of x).block)
    × (order.act ≡ sending late)
unfolding sender
sender_is Push i o r f late k = (refl, refl, refl)
sender_is Pull i o r f late k = (refl, refl, refl)

copy_sent : (o : Order) (b : ℕ) → o.block ≡ b → o.act ≡ SendCopy → sends_copy b o ≡ true
copy_sent o b e act = ap₂ (λ (x y : Bool). x && y) (ap is_copy act) (eq-eqb o.block b e)

in_copies : (orders : List Order) (b : ℕ) → b < MAX_BLOCKS → is_copied orders b ≡ true → Contains (copies_in orders) b
unfolding copies_in
in_copies orders b l up = to_filter (is_copied orders) (range_with_len 0 MAX_BLOCKS) b (to_range MAX_BLOCKS b l) up

-- a module that sends a copy has made it
is_aside_from : (told : RackTold) (k : ℕ) (link : Link) (o : Order) (p : Place) → HasOrder told k link o → link.«module» ≡ p.«module» → o.block ≡ p.block
    → o.act ≡ SendCopy → p.block < MAX_BLOCKS → is_aside told p ≡ true
unfolding orders_for
is_aside_from told k link o p h number block act low =
    let among = in_filter (is_for k link) (flat_map (orders_to link.«module») told.modules) o h in
    let one = in_flat_map (orders_to link.«module») told.modules o among.0 in
    let mine = in_orders_to link.«module» one.0 o one.2 in
    let copied : is_copied one.0.orders p.block ≡ true = any_from (sends_copy p.block) one.0.orders o mine.1 (copy_sent o p.block block act) in
    let inner : list_any (λ b. b == p.block) (copies_in one.0.orders) ≡ true = any_from (λ b. b == p.block) (copies_in one.0.orders) p.block
    (in_copies one.0.orders p.block low copied) (eq-eqb p.block p.block refl) in
    let has_it : ModuleTold → Bool = λ x. x.«module» == p.«module» && list_any (λ b. b == p.block) (copies_in x.orders) in
    any_from has_it told.modules one.0 one.1 (and_from (one.0.«module» == p.«module») (list_any (λ b. b == p.block) (copies_in one.0.orders))
    (eq-eqb one.0.«module» p.«module» (mine.0 ∙ number)) inner)

-- so the block that a transfer sends late stands aside
pub aside_by : (told : RackTold) (opening : Store) (k : ℕ) (late : Bool) (x : Transfer)
    → ((end : End) → HasOrder told k (link_at end x) (order_at late k end x)) → (source_of x).block < MAX_BLOCKS → late ≡ true
    → aside_of told opening (source_of x) ≡ block_of opening (source_of x)
aside_by told opening k late x has low up =
    let end = sender x.kind in
    let is = sender_is x.kind x.initiator x.own_block x.responder x.far_block late k in
    ap (λ (b : Bool). cond b (block_of opening (source_of x)) []) (is_aside_from told k (link_at end x) (order_at late k end x) (source_of x) (has end) is.0
    is.1 (is.2 ∙ ap sending up) low)
