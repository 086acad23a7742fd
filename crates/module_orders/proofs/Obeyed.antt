-- Modules that obey move the words of transfers, and so place all blocks.
use Rattle.std.proofs.Common.{◌↔◌, ℕ, suc, Bool, true, false, cond, ◌==◌, ◌||◌, ◌≡◌, ◌≢◌, ◌<◌, ◌+◌, List, [], ◌∷◌, ◌++◌, length, map, take, drop, get_or, slice_index, refl, sym, ap, ap₂, ◌∙◌, subst}
use Rattle.std.proofs.Common.{arith, inl, inr, add-one, append_assoc}
use Rattle.std.specs.Prelude.{All, Contains}
use Rattle.std.specs.List.{concat}
use Rattle.std.proofs.lemmas.Bool.{cases_order, false≢true, or_parts}
use Rattle.std.proofs.lemmas.List.{drop_more, get_or-map, length-drop, length-map, take-append-drop, map-append}
use Rattle.std.proofs.lemmas.List.Elements.{All-contains, All-head, Contains-get_or}
use Rattle.std.proofs.lemmas.List.Sums.{sum_by-append}
use Rattle.std.proofs.lemmas.List.Folds.{list_any-append}
use Rattle.batch.proofs.Lists.{concat_more}
use Rattle.batch.specs.ShapeView.{ShapeView}
use Rattle.batch.specs.Overlap.{no_transfer, transfer_at}
use Rattle.batch.specs.Places.{HasPlace, destination_of, source_of}
use Rattle.batch.specs.declared.limits.TheConstants.{MAX_BLOCKS, MAX_MODULES}
use Rattle.batch.specs.declared.transfer.Kind.{Kind}
use Rattle.batch.specs.declared.transfer.Kind.TheVariants.{Push, Pull}
use Rattle.batch.specs.declared.transfer.Place.{Place}
use Rattle.batch.specs.declared.transfer.Transfer.{Transfer}
use Rattle.crossbar.specs.declared.pair.Pair.{Pair}
use Rattle.link_graph.proofs.Firsts.{all_left, all_right}
use Rattle.link_graph.proofs.Once.{is_known, is_once}
use Rattle.link_graph.specs.Certificates.{AreDistinct}
use Rattle.link_graph.specs.Counts.{module_at}
use Rattle.link_graph.specs.Links.{other_end}
use Rattle.link_graph.specs.Schedules.{IsScheduleOf}
use Rattle.link_graph.specs.declared.link.End.{End}
use Rattle.link_graph.specs.declared.link.End.TheVariants.{Zero, Three}
use Rattle.module_memory.proofs.Blocks.{same_or_not}
use Rattle.module_memory.proofs.CoreLaw.{Premises-from_ready, complete_moves, each_prefix, find_destination, source_found, transfer_at-setting_of}
use Rattle.module_memory.proofs.SettingLaws.{ready_after, run_is_placed, whole_batch_is_placed, ready_first}
use Rattle.module_memory.specs.Core.{Core, IsComplete, IsMovedFrom, IsReady, IsSetting, IsStepList, at_start, found, run, setting_of, step, times}
use Rattle.module_memory.specs.Settings.{IsRun, after_steps}
use Rattle.module_memory.specs.Store.{Store, block_of, set_word}
use Rattle.switch_settings.specs.Settings.{joined_pair, numbers_in, setting_pairs}
use Rattle.module_orders.specs.Laws.{CanObey, ObeyedIsPlaced, RunIsObeyed, all_told}
use Rattle.module_orders.specs.Obeying.{AreObeyedFrom, AreObeyedIn, HasOrder, PassInTurn, Passes, PassesOver, aside_of, block_there, no_pair, words_sent}
use Rattle.module_orders.specs.Orders.{RackTold, changed_by, changes, is_changed, order_at, sending}
use Rattle.module_orders.specs.declared.order.Act.TheVariants.{Receive}
use Rattle.module_orders.specs.declared.order.Order.{Order}
use Rattle.module_orders.proofs.Asides.{aside_by}
use Rattle.module_orders.proofs.Changing.{changes-own}
use Rattle.module_orders.proofs.Meeting.{given, gives, link_at, one_number, origin}
use Rattle.module_orders.proofs.Members.{none_from}

-- ---- what a word is that passes

-- word j of what is sent of a transfer's source, where it is late or not, becomes word j of its
-- destination
abbrev pub sends_word : (Place → List ℕ) → Bool → Transfer → ℕ → Store → Store
sends_word aside late x j old =
    set_word old (destination_of x) j (slice_index (words_sent aside old (sending late) (source_of x)) j)

sends_some : (late : Bool) → sending late ≢ Receive
sends_some true e = absurd cc
sends_some false e = absurd cc

-- what passes between the ends, from the one that sends, is what the transfer sends
across : (aside : Place → List ℕ) (late : Bool) (k j : ℕ) (old new : Store) (end : End) (kind : Kind) (i o r f : ℕ)
    → let x : Transfer = record { kind = kind; initiator = i; own_block = o; responder = r; far_block = f } in
    let sent = order_at late k end x in
    let received = order_at late k (other_end end) x in
    sent.act ≢ Receive → new ≡ set_word old (block_there (link_at (other_end end) x) received) j
    (slice_index (words_sent aside old sent.act (block_there (link_at end x) sent)) j) → new ≡ sends_word aside late x j old
across aside late k j old new Zero Push i o r f some e = e
across aside late k j old new Zero Pull i o r f some e = absurd (some refl)
across aside late k j old new Three Push i o r f some e = absurd (some refl)
across aside late k j old new Three Pull i o r f some e = e

-- ---- the transfers of a setting

-- the modules and blocks of transfers are those that a rack may have
module_of_place : (kind : Kind) (i o r f : ℕ) (shape : ShapeView) (end : End) → let x : Transfer =
    record { kind = kind; initiator = i; own_block = o; responder = r; far_block = f } in HasPlace shape (source_of x) × HasPlace shape (destination_of x)
    → module_at end x < shape.modules
module_of_place Push i o r f shape Zero h = h.0.in_modules
module_of_place Push i o r f shape Three h = h.1.in_modules
module_of_place Pull i o r f shape Zero h = h.1.in_modules
module_of_place Pull i o r f shape Three h = h.0.in_modules

pub low : (batch : List Transfer) (settings : List (List ℕ)) (opening : Store) (end : End) (t : ℕ) → CanObey batch settings opening → t < length batch
    → module_at end (transfer_at batch t) < MAX_MODULES
low batch settings opening end t can l =
    let x = transfer_at batch t in
    omega (arith, module_of_place x.kind x.initiator x.own_block x.responder x.far_block opening.shape end (can.places t l), can.whole.within.few_modules)

-- transfer t of a setting
abbrev pub Stands : List Transfer → List (List ℕ) → ℕ → ℕ → Type 0
Stands batch settings k t = Contains (numbers_in settings k) t

pub known_number : (batch : List Transfer) (settings : List (List ℕ)) (k t : ℕ) → IsScheduleOf batch settings → k < length settings → Stands batch settings k t
    → t < length batch
known_number batch settings k t schedule l c = All-contains (λ n. n < length batch) (numbers_in settings k) t (schedule.no_other k [] l) c

-- the order of a link of a transfer is that transfer's
its_order : (batch : List Transfer) (settings : List (List ℕ)) (k t : ℕ) (end : End) (o : Order) → IsScheduleOf batch settings → k < length settings
    → Stands batch settings k t → HasOrder (all_told batch settings) k (link_at end (transfer_at batch t)) o → o ≡ given batch settings k end t
its_order batch settings k t end o schedule l c h =
    let one = origin batch settings k (link_at end (transfer_at batch t)) o h in
    let same = one_number batch (numbers_in settings k) end one.0 t (schedule.matchings k [] l) (schedule.no_other k [] l) one.1.stands c one.1.at in
    one.2 ∙ ap (given batch settings k end) same

-- whether the source of a transfer is late in a setting
abbrev pub late_in : List Transfer → List (List ℕ) → ℕ → ℕ → Bool
late_in batch settings k t = is_changed batch settings k (source_of (transfer_at batch t))

-- what passes over the pair of a transfer
passes_is : (batch : List Transfer) (settings : List (List ℕ)) (k t j : ℕ) (aside : Place → List ℕ) (old new : Store) → IsScheduleOf batch settings
    → k < length settings → Stands batch settings k t → PassesOver (all_told batch settings) aside k j (joined_pair (transfer_at batch t)) old new → new
    ≡ sends_word aside (late_in batch settings k t) (transfer_at batch t) j old
passes_is batch settings k t j aside old new schedule l c p =
    let x = transfer_at batch t in
    let late = late_in batch settings k t in
    let by : (end : End) → Passes (all_told batch settings) aside k j (link_at end x) (link_at (other_end end) x) old new → new
    ≡ sends_word aside late x j old = λ end q. (
    let sent = its_order batch settings k t end q.sent schedule l c q.sends in
    let received = its_order batch settings k t (other_end end) q.received schedule l c q.receives in
    across aside late k j old new end x.kind x.initiator x.own_block x.responder x.far_block (subst (λ (o : Order). o.act ≢ Receive) sent q.is_sent)
    (q.passed ∙ ap₂ (λ (s r : Order). set_word old (block_there (link_at (other_end end) x) r) j
    (slice_index (words_sent aside old s.act (block_there (link_at end x) s)) j)) sent received)
    ) in
    elim p [ inl q ↦ by Zero q | inr q ↦ by Three q ]

-- and that can pass
pub can_pass : (told : RackTold) (aside : Place → List ℕ) (late : Bool) (k j : ℕ) (old new : Store) (kind : Kind) (i o r f : ℕ)
    → let x : Transfer = record { kind = kind; initiator = i; own_block = o; responder = r; far_block = f } in
    ((end : End) → HasOrder told k (link_at end x) (order_at late k end x)) → new ≡ sends_word aside late x j old → PassesOver told aside k j (joined_pair x)
    old new
can_pass told aside late k j old new Push i o r f has e =
    let x : Transfer = record { kind = Push; initiator = i; own_block = o; responder = r; far_block = f } in
    inl (record {
      sent = order_at late k Zero x;
      received = order_at late k Three x;
      sends = has Zero;
      receives = has Three;
      is_sent =
          sends_some late;
      is_received = refl;
      passed = e;
    })
can_pass told aside late k j old new Pull i o r f has e =
    let x : Transfer = record { kind = Pull; initiator = i; own_block = o; responder = r; far_block = f } in
    inr (record {
      sent = order_at late k Three x;
      received = order_at late k Zero x;
      sends = has Three;
      receives = has Zero;
      is_sent =
          sends_some late;
      is_received = refl;
      passed = e;
    })

-- the orders of a transfer, and its source
pub has_given : (batch : List Transfer) (settings : List (List ℕ)) (opening : Store) (k t : ℕ) → CanObey batch settings opening → k < length settings
    → Stands batch settings k t → (end : End) → HasOrder (all_told batch settings) k (link_at end (transfer_at batch t)) (given batch settings k end t)
has_given batch settings opening k t can l c end =
    gives batch settings k end t l c (low batch settings opening end t can (known_number batch settings k t can.schedule l c))

pub source_low : (batch : List Transfer) (settings : List (List ℕ)) (opening : Store) (k t : ℕ) → CanObey batch settings opening → k < length settings
    → Stands batch settings k t → (source_of (transfer_at batch t)).block < MAX_BLOCKS
source_low batch settings opening k t can l c = omega (
  arith,
  (can.places t (known_number batch settings k t can.schedule l c)).0.in_blocks,
  can.whole.within.few_blocks,
)

is_passed : (batch : List Transfer) (settings : List (List ℕ)) (opening : Store) (k t j : ℕ) (aside : Place → List ℕ) (old new : Store)
    → CanObey batch settings opening → k < length settings → Stands batch settings k t → new ≡ sends_word aside (late_in batch settings k t)
    (transfer_at batch t) j old → PassesOver (all_told batch settings) aside k j (joined_pair (transfer_at batch t)) old new
is_passed batch settings opening k t j aside old new can l c e =
    let x = transfer_at batch t in
    can_pass (all_told batch settings) aside (late_in batch settings k t) k j old new x.kind x.initiator x.own_block x.responder x.far_block
    (has_given batch settings opening k t can l c) e

-- ---- blocks that no transfer has changed

unchanged_now : (opening s now : Store) (ts : List Transfer) (m : ℕ → ℕ) (p : Place) → IsMovedFrom opening s ts m now → HasPlace s.shape p → block_of s p
    ≡ block_of opening p → ((i : ℕ) → i < length ts → changes (transfer_at ts i) p ≡ false) → block_of now p ≡ block_of opening p
unchanged_now opening s now ts m p h hp agrees none = elim (find_destination ts p) [
  | inl f ↦
      let y = transfer_at ts f.0 in
      elim (same_or_not (source_of y) (destination_of y)) [
        | inl same ↦
            ap (block_of now) (sym f.2) ∙ h.destinations f.0 f.1
            ∙ ap₂ (λ (a b : List ℕ). take (m f.0) a ++ drop (m f.0) b) (ap (block_of opening) (same ∙ f.2)) (ap (block_of s) f.2 ∙ agrees)
            ∙ take-append-drop (m f.0) (block_of opening p)
        | inr other ↦ absurd (false≢true (sym (none f.0 f.1) ∙ ap (changes y) (sym f.2) ∙ changes-own y other))
      ]
  | inr unwritten ↦ h.others p hp unwritten ∙ agrees
]

pub none_changes : (ts : List Transfer) (p : Place) → changed_by ts p ≡ false → (i : ℕ) → i < length ts → changes (transfer_at ts i) p ≡ false
none_changes ts p none i l = none_from (λ t. changes t p) ts (transfer_at ts i) none (Contains-get_or ts i no_transfer l)

-- the transfers before a setting, and those of it
abbrev pub before : List Transfer → List (List ℕ) → ℕ → List Transfer
before batch settings k = setting_of batch (concat (take k settings))

pub changed_up : (batch : List Transfer) (settings : List (List ℕ)) (k : ℕ) (p : Place) → k < length settings → is_changed batch settings k p
    ≡ (changed_by (before batch settings k) p || changed_by (setting_of batch (numbers_in settings k)) p)
changed_up batch settings k p l =
    ap (λ (ns : List ℕ). changed_by (setting_of batch ns) p) (concat_more settings k l)
    ∙ ap (λ (ts : List Transfer). changed_by ts p) (map-append (transfer_at batch) (concat (take k settings)) (numbers_in settings k))
    ∙ list_any-append (λ t. changes t p) (before batch settings k) (setting_of batch (numbers_in settings k))

-- where nothing has changed a block, it is as it was
abbrev Agrees : List Transfer → List (List ℕ) → Store → ℕ → Store → Type 0
Agrees batch settings opening k s = (p : Place) → HasPlace s.shape p → changed_by (before batch settings k) p ≡ false → block_of s p ≡ block_of opening p

-- ---- a setting

-- as a setting begins
pub record Begins (batch : List Transfer) (settings : List (List ℕ)) (opening : Store) (k : ℕ) (s : Store) : Type 0 where
  pub can : CanObey batch settings opening
  pub within : k < length settings
  pub ready : IsReady opening s batch (numbers_in settings k)
  pub agrees : Agrees batch settings opening k s

-- what is sent of a source is what it had at first
reads_opening : (batch : List Transfer) (settings : List (List ℕ)) (opening : Store) (k : ℕ) (s now : Store) (m : ℕ → ℕ) (t : ℕ)
    → Begins batch settings opening k s → IsMovedFrom opening s (setting_of batch (numbers_in settings k)) m now → Stands batch settings k t
    → let p = source_of (transfer_at batch t) in words_sent (aside_of (all_told batch settings) opening) now (sending (late_in batch settings k t)) p
    ≡ block_of opening p
reads_opening batch settings opening k s now m t b h c =
    let ts = setting_of batch (numbers_in settings k) in
    let p = source_of (transfer_at batch t) in
    let aside = aside_of (all_told batch settings) opening in
    elim (late_in batch settings k t) as (λ late. late_in batch settings k t ≡ late → words_sent aside now (sending late) p ≡ block_of opening p) [
      | true ↦ λ e. aside_by (all_told batch settings) opening k (late_in batch settings k t) (transfer_at batch t)
          (has_given batch settings opening k t b.can b.within c) (source_low batch settings opening k t b.can b.within c) e
      | false ↦ λ e.
          let parts = or_parts (changed_by (before batch settings k) p) (changed_by ts p) (sym (changed_up batch settings k p b.within) ∙ e) in
          let hp : HasPlace s.shape p = (b.ready.places t (known_number batch settings k t b.can.schedule b.within c)).0 in
          unchanged_now opening s now ts m p h hp (b.agrees p hp parts.0) (none_changes ts p parts.1)
    ] refl

-- so a word that passes is that which the machine moves
same_step : (batch : List Transfer) (settings : List (List ℕ)) (opening : Store) (k : ℕ) (s : Store) (c : Core) (m : ℕ → ℕ) (i : ℕ)
    → Begins batch settings opening k s → let numbers = numbers_in settings k in let ts = setting_of batch numbers in
    IsMovedFrom opening s ts m c.store → i < length numbers
    → let t = get_or numbers i 0 in
    sends_word (aside_of (all_told batch settings) opening) (late_in batch settings k t) (transfer_at batch t) (slice_index c.moved i) c.store
    ≡ (step (found batch opening) ts c i).store
same_step batch settings opening k s c m i b h l =
    let numbers = numbers_in settings k in
    let ts = setting_of batch numbers in
    let t = get_or numbers i 0 in
    let x = transfer_at batch t in
    let j = slice_index c.moved i in
    let stands = Contains-get_or numbers i 0 l in
    let sent = reads_opening batch settings opening k s c.store m t b h stands in
    let finds = source_found opening s c.store batch numbers b.ready h.others t (known_number batch settings k t b.can.schedule b.within stands) in
    ap (λ (words : List ℕ). set_word c.store (destination_of x) j (slice_index words j)) (sent ∙ sym finds)
    ∙ ap (λ (y : Transfer). set_word c.store (destination_of y) j (slice_index (found batch opening c.store (source_of y)) j))
    (sym (transfer_at-setting_of batch numbers i l))

-- steps after others
run-append : (find : Store → Place → List ℕ) (ts : List Transfer) (c : Core) (xs ys : List ℕ) → run find ts c (xs ++ ys) ≡ run find ts (run find ts c xs) ys
run-append find ts c [] ys = refl
run-append find ts c (x ∷ xs) ys = run-append find ts (step find ts c x) xs ys

-- the machine on its way through a setting, after some of its steps
pub record IsGoing (opening s : Store) (batch : List Transfer) (numbers : List ℕ) (behind : List ℕ) (c : Core) (steps : List ℕ) : Type 0 where
  pub is : c ≡ run (found batch opening) (setting_of batch numbers) (at_start s (setting_of batch numbers)) behind
  pub list : IsStepList (setting_of batch numbers) s.shape.words (behind ++ steps)

first_steps : (ts : List Transfer) (words : ℕ) (xs ys : List ℕ) → IsStepList ts words (xs ++ ys) → IsStepList ts words xs
first_steps ts words xs ys h = record {
  known = all_left (λ i. i < length ts) xs ys h.known;
  bounded = λ i l. omega (arith, h.bounded i l, sum_by-append (λ (n : ℕ). cond (n == i) 1 0) xs ys);
}

-- so many words have moved
has_moved : (opening s : Store) (batch : List Transfer) (numbers behind : List ℕ) (c : Core) (steps : List ℕ) → IsReady opening s batch numbers
    → IsGoing opening s batch numbers behind c steps → IsMovedFrom opening s (setting_of batch numbers) (λ i. times i behind) c.store
has_moved opening s batch numbers behind c steps ready g =
    let ts = setting_of batch numbers in
    subst (λ (x : Core). IsMovedFrom opening s ts (λ i. times i behind) x.store) (sym g.is)
    (each_prefix opening s batch numbers ready behind (first_steps ts s.shape.words behind steps g.list))

goes_on : (opening s : Store) (batch : List Transfer) (numbers behind : List ℕ) (c : Core) (i : ℕ) (steps : List ℕ) → IsGoing opening s batch numbers behind c
    (i ∷ steps) → IsGoing opening s batch numbers (behind ++ i ∷ []) (step (found batch opening) (setting_of batch numbers) c i) steps
goes_on opening s batch numbers behind c i steps g =
    let ts = setting_of batch numbers in
    let find = found batch opening in
    record {
      is = ap (λ (x : Core). step find ts x i) g.is ∙ sym (run-append find ts (at_start s ts) behind (i ∷ []));
      list = subst (IsStepList ts s.shape.words) (sym (append_assoc behind (i ∷ []) steps)) g.list;
    }

-- the next step is one of the setting's
next_known : (opening s : Store) (batch : List Transfer) (numbers behind : List ℕ) (c : Core) (i : ℕ) (steps : List ℕ) → IsGoing opening s batch numbers behind
    c (i ∷ steps) → i < length numbers
next_known opening s batch numbers behind c i steps g =
    let ts = setting_of batch numbers in
    omega (
      arith,
      All-head (λ n. n < length ts) i steps (all_right (λ n. n < length ts) behind (i ∷ steps) g.list.known),
      length-map numbers (transfer_at batch),
    )

-- the pair of a transfer of a setting
pub pair_at : (batch : List Transfer) (numbers : List ℕ) (i : ℕ) → i < length numbers → get_or (setting_pairs batch numbers) i no_pair
    ≡ joined_pair (transfer_at batch (get_or numbers i 0))
pair_at batch numbers i l =
    get_or-map joined_pair (setting_of batch numbers) i no_transfer no_pair (omega (arith, length-map numbers (transfer_at batch)))
    ∙ ap joined_pair (transfer_at-setting_of batch numbers i l)

-- words that pass in turn are moved so by the machine, and the other way round
turns : (batch : List Transfer) (settings : List (List ℕ)) (opening : Store) (k : ℕ) (s t : Store) (behind : List ℕ) (c : Core) (steps : List ℕ)
    → Begins batch settings opening k s → let numbers = numbers_in settings k in let told = all_told batch settings in
    IsGoing opening s batch numbers behind c steps → PassInTurn told (aside_of told opening) k (setting_pairs batch numbers) c.moved steps c.store t ↔
    (t ≡ (run (found batch opening) (setting_of batch numbers) c steps).store)
turns batch settings opening k s t behind c [] b g = (λ h. h, λ e. e)
turns batch settings opening k s t behind c (i ∷ steps) b g =
    let numbers = numbers_in settings k in
    let told = all_told batch settings in
    let aside = aside_of told opening in
    let j = slice_index c.moved i in
    let l = next_known opening s batch numbers behind c i steps g in
    let n = get_or numbers i 0 in
    let stands = Contains-get_or numbers i 0 l in
    let pair = pair_at batch numbers i l in
    let next = step (found batch opening) (setting_of batch numbers) c i in
    let moves = same_step batch settings opening k s c (λ x. times x behind) i b (has_moved opening s batch numbers behind c (i ∷ steps) b.ready g) l in
    let rest = turns batch settings opening k s t (behind ++ i ∷ []) next steps b (goes_on opening s batch numbers behind c i steps g) in (
      λ h.
          let over : PassesOver told aside k j (joined_pair (transfer_at batch n)) c.store h.0 = subst (λ (q : Pair). PassesOver told aside k j q c.store h.0)
          pair h.1 in
          let same : h.0 ≡ next.store = passes_is batch settings k n j aside c.store h.0 b.can.schedule b.within stands over ∙ moves in
          rest.0 (subst (λ (x : Store). PassInTurn told aside k (setting_pairs batch numbers) next.moved steps x t) same h.2),
      λ e. (
        next.store,
        subst (λ (q : Pair). PassesOver told aside k j q c.store next.store) (sym pair)
            (is_passed batch settings opening k n j aside c.store next.store b.can b.within stands (sym moves)),
        rest.1 e,
      ),
    )

-- before a word has passed
pub all_zero : (ts : List Transfer) → ◌≡◌ {A = List ℕ} (map (λ (p : Pair). 0) (map joined_pair ts)) (map (λ (t : Transfer). 0) ts)
all_zero [] = refl
all_zero (t ∷ ts) = ap (λ (ns : List ℕ). 0 ∷ ns) (all_zero ts)

going_first : (opening s : Store) (batch : List Transfer) (numbers steps : List ℕ) → IsComplete (setting_of batch numbers) s.shape.words steps
    → IsGoing opening s batch numbers [] (at_start s (setting_of batch numbers)) steps
going_first opening s batch numbers steps whole = record {
  is = refl;
  list = record { known = whole.known; bounded = λ i l. omega (arith, whole.complete i l) };
}

-- the machine runs the setting
abbrev Runs : Store → List Transfer → List ℕ → Store → Store → Type 0
Runs opening batch numbers s t = (steps : List ℕ) × IsComplete (setting_of batch numbers) s.shape.words steps
    × (t ≡ (after_steps opening s batch numbers steps).store)

-- a setting is obeyed just where the machine runs it
setting_runs : (batch : List Transfer) (settings : List (List ℕ)) (opening : Store) (k : ℕ) (s t : Store) → Begins batch settings opening k s → let numbers =
    numbers_in settings k in let told = all_told batch settings in
    AreObeyedIn told (aside_of told opening) k (setting_pairs batch numbers) s t ↔ Runs opening batch numbers s t
setting_runs batch settings opening k s t b =
    let numbers = numbers_in settings k in
    let ts = setting_of batch numbers in
    let told = all_told batch settings in
    let InTurn = λ (ns steps : List ℕ). PassInTurn told (aside_of told opening) k (setting_pairs batch numbers) ns steps s t in
    let many = length-map ts joined_pair in
    let by = λ (steps : List ℕ) (whole : IsComplete ts s.shape.words steps). turns batch settings opening k s t [] (at_start s ts) steps b
    (going_first opening s batch numbers steps whole) in (
      λ h.
          let whole : IsComplete ts s.shape.words h.0 = record {
            known = subst (λ (n : ℕ). All (λ i. i < n) h.0) many h.1.known;
            complete =
                λ i l. h.1.all i (omega (arith, many));
          } in
          (h.0, whole, (by h.0 whole).0 (subst (λ (ns : List ℕ). InTurn ns h.0) (all_zero ts) h.2)),
      λ r. (
        r.0,
        record { known = subst (λ (n : ℕ). All (λ i. i < n) r.0) (sym many) r.1.known; all = λ i l. r.1.complete i (omega (arith, many)) },
        subst (λ (ns : List ℕ). InTurn ns r.0) (sym (all_zero ts)) ((by r.0 r.1).1 r.2),
      ),
    )

-- ---- one setting after another

-- what is still to come, from a setting on
pub record IsAhead (batch : List Transfer) (settings : List (List ℕ)) (opening : Store) (k : ℕ) (s : Store) (more : List (List ℕ)) : Type 0 where
  pub can : CanObey batch settings opening
  pub rest : more ≡ drop k settings
  pub ready : IsReady opening s batch (concat more)
  pub agrees : Agrees batch settings opening k s

ahead_within : (settings more : List (List ℕ)) (k : ℕ) (numbers : List ℕ) → numbers ∷ more ≡ drop k settings → k < length settings
ahead_within settings more k numbers e = omega (arith, ap length e, length-drop k settings)

pub here_is : (settings more : List (List ℕ)) (k : ℕ) (numbers : List ℕ) → numbers ∷ more ≡ drop k settings → (numbers ≡ numbers_in settings k)
    × (more ≡ drop (k + 1) settings)
here_is settings more k numbers e =
    let split = e ∙ drop_more settings k [] (ahead_within settings more k numbers e) in
    (ap (λ (ls : List (List ℕ)). get_or ls 0 []) split, ap (λ (ls : List (List ℕ)). drop 1 ls) split)

begins : (batch : List Transfer) (settings : List (List ℕ)) (opening : Store) (k : ℕ) (s : Store) (numbers : List ℕ) (more : List (List ℕ))
    → IsAhead batch settings opening k s (numbers ∷ more) → Begins batch settings opening k s
begins batch settings opening k s numbers more a = record {
  can = a.can;
  within = ahead_within settings more k numbers a.rest;
  ready = subst (IsReady opening s batch) (here_is settings more k numbers a.rest).0 (ready_first opening s batch numbers (concat more) a.ready);
  agrees = a.agrees;
}

-- after a setting
ahead_next : (batch : List Transfer) (settings : List (List ℕ)) (opening : Store) (k : ℕ) (s : Store) (numbers : List ℕ) (more : List (List ℕ)) (steps : List ℕ)
    → IsAhead batch settings opening k s (numbers ∷ more) → IsComplete (setting_of batch numbers) s.shape.words steps → IsAhead batch settings opening (suc k)
    (after_steps opening s batch numbers steps).store more
ahead_next batch settings opening k s numbers more steps a whole =
    let ts = setting_of batch numbers in
    let b = begins batch settings opening k s numbers more a in
    let is = here_is settings more k numbers a.rest in
    let now = (after_steps opening s batch numbers steps).store in
    let moved = complete_moves (found batch opening) opening s ts
    (Premises-from_ready opening s batch numbers (ready_first opening s batch numbers (concat more) a.ready)) steps whole in
    record {
      can = a.can;
      rest = is.1 ∙ ap (λ (n : ℕ). drop n settings) (add-one k);
      ready = ready_after opening s now batch numbers (concat more) (λ _. s.shape.words) a.ready moved;
      agrees = λ p hp none.
          let here : HasPlace s.shape p = subst (λ (x : ShapeView). HasPlace x p) moved.same_shape hp in
          let both = ap (λ (n : ℕ). changed_by (before batch settings n) p) (add-one k) ∙ none in
          let parts = or_parts (changed_by (before batch settings k) p) (changed_by (setting_of batch (numbers_in settings k)) p)
          (sym (changed_up batch settings k p b.within) ∙ both) in
          unchanged_now opening s now ts (λ _. s.shape.words) p moved here (a.agrees p here parts.0)
          (none_changes ts p (ap (λ (ns : List ℕ). changed_by (setting_of batch ns) p) is.0 ∙ parts.1));
    }

obeyed_runs : (batch : List Transfer) (settings : List (List ℕ)) (opening : Store) (k : ℕ) (s t : Store) (more : List (List ℕ))
    → IsAhead batch settings opening k s more → let told = all_told batch settings in
    AreObeyedFrom told (aside_of told opening) k (map (setting_pairs batch) more) s t ↔ IsRun opening s batch more t
obeyed_runs batch settings opening k s t [] a = (λ h. h, λ h. h)
obeyed_runs batch settings opening k s t (numbers ∷ more) a =
    let told = all_told batch settings in
    let Obeyed = λ (ns : List ℕ) (mid : Store). AreObeyedIn told (aside_of told opening) k (setting_pairs batch ns) s mid in
    let one : (mid : Store) → Obeyed numbers mid ↔ Runs opening batch numbers s mid = λ mid.
    subst (λ (ns : List ℕ). Obeyed ns mid ↔ Runs opening batch ns s mid) (sym (here_is settings more k numbers a.rest).0)
    (setting_runs batch settings opening k s mid (begins batch settings opening k s numbers more a)) in
    let next = λ (steps : List ℕ) (whole : IsComplete (setting_of batch numbers) s.shape.words steps).
    obeyed_runs batch settings opening (suc k) (after_steps opening s batch numbers steps).store t more
    (ahead_next batch settings opening k s numbers more steps a whole) in (
      λ h.
          let ran = (one h.0).0 h.1 in (
            ran.0,
            ran.1,
            (next ran.0 ran.1).0 (subst (λ (x : Store). AreObeyedFrom told (aside_of told opening) (suc k) (map (setting_pairs batch) more) x t)
                ran.2 h.2),
          ),
      λ h. let now = (after_steps opening s batch numbers h.0).store in (now, (one now).1 (h.0, h.1, refl), (next h.0 h.1).1 h.2),
    )

-- ---- all settings

setting_from : (batch : List Transfer) (xs : List ℕ) → All (λ t. t < length batch) xs → AreDistinct xs → IsSetting batch xs
setting_from batch xs known distinct = record {
  known = known;
  distinct = λ i j hi hj e. elim (cases_order i j) [
    | inl same ↦ same
    | inr other ↦ elim other [ inl less ↦ absurd (distinct i j 0 less hj e) | inr less ↦ absurd (distinct j i 0 less hi (sym e)) ]
  ];
}

all_ahead : (batch : List Transfer) (settings : List (List ℕ)) (opening : Store) → CanObey batch settings opening → IsAhead batch settings opening 0 opening
    settings
all_ahead batch settings opening can = record {
  can = can;
  rest = refl;
  ready = record {
    opening_whole = can.whole;
    whole = can.whole;
    same_shape = refl;
    agrees = λ i l none. refl;
    places = can.places;
    apart = can.apart;
    setting = setting_from batch (concat settings) (is_known batch settings can.schedule) (is_once batch settings can.schedule).distinct;
  };
  agrees = λ p hp none. refl;
}

pub obeyed_is_placed : ObeyedIsPlaced
obeyed_is_placed batch settings opening new can h =
    let ahead = all_ahead batch settings opening can in
    let ran = (obeyed_runs batch settings opening 0 opening new settings ahead).0 h in
    whole_batch_is_placed opening opening new batch (concat settings) ahead.ready (is_once batch settings can.schedule).every
    (run_is_placed opening opening new batch settings ahead.ready ran)

pub run_is_obeyed : RunIsObeyed
run_is_obeyed batch settings opening new can h = (obeyed_runs batch settings opening 0 opening new settings (all_ahead batch settings opening can)).1 h
