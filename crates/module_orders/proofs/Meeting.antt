-- Each order comes from a transfer, and each transfer gives two that meet.
use Rattle.std.proofs.Common.{◌++◌, ℕ, Bool, true, false, cond, ◌==◌, ◌≡◌, ◌≢◌, ◌<◌, List, [], length, map, get_or, None, refl, sym, ap, ap₂, ◌∙◌, subst, arith, inl, inr, eq-eqb}
use Rattle.std.specs.Prelude.{All, Contains, filter, nat_lt}
use Rattle.std.specs.List.{flat_map, range_with_len}
use Rattle.std.proofs.lemmas.Bool.{and_from, and_parts, cases_order, eqb-true, false≢true, lt-ltb}
use Rattle.std.proofs.lemmas.List.{get_or_default}
use Rattle.std.proofs.lemmas.List.Elements.{All-contains, Contains-append_cases, Contains-append_left, Contains-append_right}
use Rattle.std.proofs.lemmas.Option.{slice_get-get_or}
use Rattle.batch.specs.Overlap.{no_transfer, transfer_at}
use Rattle.batch.specs.Places.{source_of}
use Rattle.batch.specs.declared.limits.TheConstants.{MAX_MODULES}
use Rattle.batch.specs.declared.transfer.Place.{Place}
use Rattle.batch.specs.declared.transfer.Transfer.{Transfer}
use Rattle.link_graph.specs.Counts.{module_at}
use Rattle.link_graph.specs.Equal.{same_end}
use Rattle.link_graph.proofs.Users.{uses_at}
use Rattle.link_graph.specs.Uses.{IsMatching, Uses}
use Rattle.link_graph.specs.declared.link.End.{End}
use Rattle.link_graph.specs.declared.link.End.TheVariants.{Zero, Three}
use Rattle.link_graph.specs.declared.link.Link.{Link}
use Rattle.module_memory.specs.Core.{setting_of}
use Rattle.switch_settings.specs.Settings.{numbers_in}
use Rattle.module_orders.specs.Laws.{all_told}
use Rattle.module_orders.specs.Obeying.{HasOrder, is_for, orders_for, orders_to}
use Rattle.module_orders.specs.Orders.{ModuleTold, all_modules, is_changed, is_told, module_told, order_at, orders_before, orders_in, orders_of, orders_over}
use Rattle.module_orders.specs.declared.order.Order.{Order}
use Rattle.module_orders.proofs.Members.{in_filter, in_flat_map, in_map, in_range, to_filter, to_flat_map, to_map, to_range}

-- the link of a transfer at an end
abbrev pub link_at : End → Transfer → Link
link_at end x = record { end = end; «module» = module_at end x }

-- the order that transfer t of setting k gives the module at an end
abbrev pub given : List Transfer → List (List ℕ) → ℕ → End → ℕ → Order
given batch settings k end t =
    let x = transfer_at batch t in order_at (is_changed batch settings k (source_of x)) k end x

-- a transfer of setting k that uses a link
pub record IsOver (batch : List Transfer) (settings : List (List ℕ)) (k : ℕ) (link : Link) (t : ℕ) : Type 0 where
  pub within : k < length settings
  pub stands : Contains (numbers_in settings k) t
  pub at : module_at link.end (transfer_at batch t) ≡ link.«module»

-- ---- of which transfer an order is

-- what is told of a module
pub told_is : (batch : List Transfer) (settings : List (List ℕ)) (told : ModuleTold) → Contains (all_told batch settings).modules told → (m : ℕ)
    × (m < MAX_MODULES) × (told ≡ module_told m (orders_before batch settings (length settings) m))
unfolding orders_of all_modules
told_is batch settings told c =
    let f : ℕ → ModuleTold = λ m. module_told m (orders_before batch settings (length settings) m) in
    let among = in_filter (is_told None) (map f (range_with_len 0 MAX_MODULES)) told c in
    let one = in_map f (range_with_len 0 MAX_MODULES) told among.0 in
    (one.0, in_range MAX_MODULES one.0 one.1, sym one.2)

pub over_is : (changed : Place → Bool) (k : ℕ) (end : End) (batch : List Transfer) (numbers : List ℕ) (m : ℕ) (o : Order)
    → Contains (orders_over changed k end (setting_of batch numbers) m) o
    → (t : ℕ) × Contains numbers t × (module_at end (transfer_at batch t) ≡ m)
    × (o ≡ order_at (changed (source_of (transfer_at batch t))) k end (transfer_at batch t))
over_is changed k end batch numbers m o c =
    let h : Transfer → Order = λ x. order_at (changed (source_of x)) k end x in
    let one = in_map h (filter (λ x. module_at end x == m) (setting_of batch numbers)) o c in
    let among = in_filter (λ x. module_at end x == m) (setting_of batch numbers) one.0 one.1 in
    let number = in_map (transfer_at batch) numbers one.0 among.0 in
    (number.0, number.1, ap (module_at end) number.2 ∙ eqb-true (module_at end one.0) m among.1, sym one.2 ∙ ap h (sym number.2))

-- an order at both ends is at one of them
pub of_end : (part : End → List Order) (o : Order) → Contains (part Zero ++ part Three) o → (end : End) × Contains (part end) o
of_end part o c = elim (Contains-append_cases (part Zero) (part Three) o c) [ inl a ↦ (Zero, a) | inr b ↦ (Three, b) ]

pub before_is : (batch : List Transfer) (settings : List (List ℕ)) (m : ℕ) (o : Order) → Contains (orders_before batch settings (length settings) m) o
    → (k : ℕ) (link : Link) → o.setting ≡ k → o.end ≡ link.end → m ≡ link.«module»
    → (t : ℕ) × IsOver batch settings k link t × (o ≡ given batch settings k link.end t)
before_is batch settings m o c k link when over number =
    let one = in_flat_map (orders_in batch settings m) (range_with_len 0 (length settings)) o c in
    let n = one.0 in
    let changed = is_changed batch settings n in
    let side = of_end (λ (e : End). orders_over changed n e (setting_of batch (numbers_in settings n)) m) o one.2 in
    let f = over_is changed n side.0 batch (numbers_in settings n) m o side.1 in
    let same_k : n ≡ k = sym (ap (λ (x : Order). x.setting) f.3) ∙ when in
    let same_end : side.0 ≡ link.end = sym (ap (λ (x : Order). x.end) f.3) ∙ over in (
      f.0,
      record {
        within = subst (λ (x : ℕ). x < length settings) same_k (in_range (length settings) n one.1);
        stands = subst (λ (x : ℕ). Contains (numbers_in settings x) f.0) same_k f.1;
        at = ap (λ (e : End). module_at e (transfer_at batch f.0)) (sym same_end) ∙ f.2 ∙ number;
      },
      f.3 ∙ ap₂ (λ (x : ℕ) (e : End). given batch settings x e f.0) same_k same_end,
    )

-- what the tests of orders tell
same_end_tells : (a b : End) → same_end a b ≡ true → a ≡ b
same_end_tells Zero Zero e = refl
same_end_tells Zero Three e = absurd (false≢true e)
same_end_tells Three Zero e = absurd (false≢true e)
same_end_tells Three Three e = refl

same_end_self : (a : End) → same_end a a ≡ true
same_end_self Zero = refl
same_end_self Three = refl

pub in_orders_to : (m : ℕ) (told : ModuleTold) (o : Order) → Contains (orders_to m told) o → (told.«module» ≡ m) × Contains told.orders o
in_orders_to m told o c = elim (told.«module» == m) as (λ b. told.«module» == m ≡ b → Contains (cond b told.orders []) o → (told.«module» ≡ m)
    × Contains told.orders o) [
      | true ↦ λ e d. (eqb-true told.«module» m e, d)
      | false ↦ λ e d. absurd (omega (arith, d.1))
    ] refl c

pub to_orders_to : (m : ℕ) (orders : List Order) (o : Order) → Contains orders o → Contains (orders_to m (module_told m orders)) o
to_orders_to m orders o c = subst (λ (b : Bool). Contains (cond b orders []) o) (sym (eq-eqb m m refl)) c

pub origin : (batch : List Transfer) (settings : List (List ℕ)) (k : ℕ) (link : Link) (o : Order) → HasOrder (all_told batch settings) k link o → (t : ℕ)
    × IsOver batch settings k link t × (o ≡ given batch settings k link.end t)
unfolding orders_for
origin batch settings k link o h =
    let modules = (all_told batch settings).modules in
    let among = in_filter (is_for k link) (flat_map (orders_to link.«module») modules) o h in
    let one = in_flat_map (orders_to link.«module») modules o among.0 in
    let mine = in_orders_to link.«module» one.0 o one.2 in
    let for_it = and_parts (o.setting == k) (same_end o.end link.end) among.1 in
    let told = told_is batch settings one.0 one.1 in
    before_is batch settings told.0 o (subst (λ (x : ModuleTold). Contains x.orders o) told.2 mine.1) k link (eqb-true o.setting k for_it.0)
    (same_end_tells o.end link.end for_it.1)
    (sym (ap (λ (x : ModuleTold). x.«module») told.2) ∙ mine.0)

-- ---- the orders of a transfer

given_over : (changed : Place → Bool) (k : ℕ) (end : End) (batch : List Transfer) (numbers : List ℕ) (t : ℕ) → Contains numbers t → let x =
    transfer_at batch t in Contains (orders_over changed k end (setting_of batch numbers) (module_at end x)) (order_at (changed (source_of x)) k end x)
given_over changed k end batch numbers t c =
    let x = transfer_at batch t in
    let m = module_at end x in
    let among = to_filter (λ y. module_at end y == m) (setting_of batch numbers) x (to_map (transfer_at batch) numbers t c) (eq-eqb m m refl) in
    to_map (λ y. order_at (changed (source_of y)) k end y) (filter (λ y. module_at end y == m) (setting_of batch numbers)) x among

-- those at one end are among those at both
either_end : (part : End → List Order) (end : End) (o : Order) → Contains (part end) o → Contains (part Zero ++ part Three) o
either_end part Zero o c = Contains-append_left (part Zero) (part Three) o c
either_end part Three o c = Contains-append_right (part Zero) (part Three) o c

in_setting : (batch : List Transfer) (settings : List (List ℕ)) (k : ℕ) (end : End) (t : ℕ) → Contains (numbers_in settings k) t
    → Contains (orders_in batch settings (module_at end (transfer_at batch t)) k) (given batch settings k end t)
in_setting batch settings k end t c =
    let part = λ (e : End). orders_over (is_changed batch settings k) k e (setting_of batch (numbers_in settings k)) (module_at end (transfer_at batch t)) in
    either_end part end (given batch settings k end t) (given_over (is_changed batch settings k) k end batch (numbers_in settings k) t c)

-- a module has the order
pub is_given : (batch : List Transfer) (settings : List (List ℕ)) (k : ℕ) (end : End) (t : ℕ) → k < length settings → Contains (numbers_in settings k) t
    → Contains (orders_before batch settings (length settings) (module_at end (transfer_at batch t))) (given batch settings k end t)
is_given batch settings k end t l c =
    let m = module_at end (transfer_at batch t) in
    to_flat_map (orders_in batch settings m) (range_with_len 0 (length settings)) k (given batch settings k end t) (to_range (length settings) k l)
    (in_setting batch settings k end t c)

-- a module with an order is told
pub is_among : (batch : List Transfer) (settings : List (List ℕ)) (m : ℕ) (o : Order) → m < MAX_MODULES
    → Contains (orders_before batch settings (length settings) m) o → Contains (all_told batch settings).modules
    (module_told m (orders_before batch settings (length settings) m))
unfolding orders_of all_modules
is_among batch settings m o low c =
    let f : ℕ → ModuleTold = λ n. module_told n (orders_before batch settings (length settings) n) in
    let some : nat_lt 0 (length (orders_before batch settings (length settings) m)) ≡ true =
    lt-ltb 0 (length (orders_before batch settings (length settings) m)) (omega (arith, c.1)) in
    to_filter (is_told None) (map f (range_with_len 0 MAX_MODULES)) (f m) (to_map f (range_with_len 0 MAX_MODULES) m (to_range MAX_MODULES m low))
    (rw some refl)

pub gives : (batch : List Transfer) (settings : List (List ℕ)) (k : ℕ) (end : End) (t : ℕ) → k < length settings → Contains (numbers_in settings k) t
    → module_at end (transfer_at batch t) < MAX_MODULES → HasOrder (all_told batch settings) k (link_at end (transfer_at batch t))
    (given batch settings k end t)
unfolding orders_for
gives batch settings k end t l c low =
    let link = link_at end (transfer_at batch t) in
    let m = link.«module» in
    let o = given batch settings k end t in
    let has = is_given batch settings k end t l c in
    let modules = (all_told batch settings).modules in
    let orders = orders_before batch settings (length settings) m in
    let among = to_flat_map (orders_to m) modules (module_told m orders) o (is_among batch settings m o low has) (to_orders_to m orders o has) in
    to_filter (is_for k link) (flat_map (orders_to m) modules) o among (and_from (k == k) (same_end end end) (eq-eqb k k refl) (same_end_self end))

-- ---- one transfer uses a link in a setting

-- two numbers of a matching that use one link are one
pub one_number : (batch : List Transfer) (numbers : List ℕ) (end : End) (t u : ℕ) → IsMatching batch numbers → All (λ n. n < length batch) numbers
    → Contains numbers t → Contains numbers u → module_at end (transfer_at batch t) ≡ module_at end (transfer_at batch u) → t ≡ u
one_number batch numbers end t u matching known ct cu same =
    let link = link_at end (transfer_at batch u) in
    let at : (v : ℕ) (c : Contains numbers v) → get_or numbers c.0 0 ≡ v = λ v c. get_or_default numbers c.0 0 v c.1 ∙ c.2 in
    let uses : (v : ℕ) (c : Contains numbers v) → module_at end (transfer_at batch v) ≡ link.«module» → Uses batch (get_or numbers c.0 0) link = λ v c is. (
    subst (λ (n : ℕ). Uses batch n link) (sym (at v c))
    (uses_at batch v link (transfer_at batch v) (slice_get-get_or batch v no_transfer (All-contains (λ n. n < length batch) numbers v known c)) is)
    ) in
    elim (cases_order ct.0 cu.0) [
      | inl here ↦ sym (at t ct) ∙ ap (λ (k : ℕ). get_or numbers k 0) here ∙ at u cu
      | inr other ↦ elim other [
        | inl less ↦ absurd ((matching ct.0 cu.0 0 less cu.1).none_common link (uses t ct same) (uses u cu refl))
        | inr less ↦ absurd ((matching cu.0 ct.0 0 less ct.1).none_common link (uses u cu refl) (uses t ct same))
      ]
    ]
