-- Modules that are told one order more.
use Rattle.std.proofs.Common.{ℕ, Bool, true, false, ◌==◌, ◌≡◌, ◌<◌, ◌+◌, List, [], ◌∷◌, ◌++◌, length, map, take, get_or, set, cond, refl, sym, ap, ap₂, ◌∙◌, subst, arith, inl, inr, eq-eqb, ne_eqb}
use Rattle.std.proofs.Common.{append_assoc, length-set, get_or-set_same, get_or-set_other}
use Rattle.std.specs.Prelude.{All, filter}
use Rattle.std.specs.List.{concat, flat_map, range_with_len}
use Rattle.std.proofs.lemmas.Bool.{cases_eq}
use Rattle.std.proofs.lemmas.List.{append-nil, ext_get_or, map-append, take_more}
use Rattle.std.proofs.lemmas.List.Elements.{All-head, All-map, All-tail, filter-append}
use Rattle.std.proofs.lemmas.List.FromFn.{get_or-map-range_with_len, length-map-range_with_len}
use Rattle.std.proofs.lemmas.List.{flat_map_more}
use Rattle.batch.proofs.Lists.{concat_more, range_more}
use Rattle.batch.specs.Batches.{IsBatch}
use Rattle.batch.specs.ShapeView.{widest}
use Rattle.batch.specs.Overlap.{transfer_at}
use Rattle.batch.specs.Places.{HasPlace, source_of}
use Rattle.batch.specs.Written.{flag_of}
use Rattle.batch.proofs.Places.{places_within}
use Rattle.batch.specs.declared.limits.TheConstants.{MAX_MODULES}
use Rattle.batch.specs.declared.transfer.Place.{Place}
use Rattle.batch.specs.declared.transfer.Transfer.{Transfer}
use Rattle.link_graph.specs.Counts.{module_at}
use Rattle.link_graph.specs.declared.link.End.{End}
use Rattle.link_graph.specs.declared.link.End.TheVariants.{Zero, Three}
use Rattle.module_memory.specs.Core.{setting_of}
use Rattle.module_orders.specs.Flags.{AreChanged}
use Rattle.module_orders.specs.Orders.{ModuleTold, all_modules, is_changed, module_told, order_at, orders_before, orders_in, orders_of, orders_over, rack_told}
use Rattle.module_orders.specs.declared.order.Order.{Order}
use Rattle.switch_settings.specs.Settings.{numbers_in}

-- functions that agree give the same modules
pub same_modules : (f g : ℕ → List Order) → ((m : ℕ) → f m ≡ g m) → all_modules f ≡ all_modules g
unfolding all_modules
same_modules f g e = each (range_with_len 0 MAX_MODULES)
  where
    each : (ms : List ℕ) → map (λ m. module_told m (f m)) ms ≡ map (λ m. module_told m (g m)) ms
    each [] = refl
    each (m ∷ ms) = ap₂ (λ (x : List Order) (xs : List ModuleTold). module_told m x ∷ xs) (e m) (each ms)

pub length-all_modules : (f : ℕ → List Order) → length (all_modules f) ≡ MAX_MODULES
unfolding all_modules
length-all_modules f = length-map-range_with_len (λ m. module_told m (f m)) 0 MAX_MODULES

pub module-at : (f : ℕ → List Order) (m : ℕ) (d : ModuleTold) → m < MAX_MODULES → get_or (all_modules f) m d ≡ module_told m (f m)
unfolding all_modules
module-at f m d l = get_or-map-range_with_len (λ m. module_told m (f m)) 0 MAX_MODULES m m d l (omega arith)

-- one of the modules is told an order more
abbrev with_order : ℕ → Order → ℕ → List Order
with_order i o m = cond (i == m) (o ∷ []) []

pub one_told : (f : ℕ → List Order) (modules : List ModuleTold) (i : ℕ) (o : Order) (old new : ModuleTold) → i < MAX_MODULES → modules ≡ all_modules f → old
    ≡ get_or modules i old → new ≡ module_told old.«module» (old.orders ++ o ∷ []) → set modules i new ≡ all_modules (λ m. f m ++ with_order i o m)
one_told f modules i o old new l are is pushed =
    let g : ℕ → List Order = λ m. f m ++ with_order i o m in
    let was : old ≡ module_told i (f i) = is ∙ ap (λ (ms : List ModuleTold). get_or ms i old) are ∙ module-at f i old l in
    let now : new ≡ module_told i (g i) = pushed ∙ ap (λ (t : ModuleTold). module_told t.«module» (t.orders ++ o ∷ [])) was
    ∙ ap (λ (b : Bool). module_told i (f i ++ cond b (o ∷ []) [])) (sym (eq-eqb i i refl)) in
    let size : length modules ≡ MAX_MODULES = ap (length {A = ModuleTold}) are ∙ length-all_modules f in
    ext_get_or new (set modules i new) (all_modules g) (length-set modules i new ∙ size ∙ sym (length-all_modules g)) (λ k below.
    let low : k < MAX_MODULES = omega (arith, length-set modules i new) in
    elim (cases_eq k i) [
      | inl e ↦ ap (λ (n : ℕ). get_or (set modules i new) n new) e ∙ get_or-set_same modules i new new (omega arith) ∙ now
          ∙ sym (ap (λ (n : ℕ). get_or (all_modules g) n new) e ∙ module-at g i new l)
      | inr ne ↦ get_or-set_other modules i k new new ne ∙ ap (λ (ms : List ModuleTold). get_or ms k new) are ∙ module-at f k new low
          ∙ ap (module_told k) (sym (append-nil (f k)) ∙ ap (λ (b : Bool). f k ++ cond b (o ∷ []) []) (sym (ne_eqb i k (λ e. ne (sym e)))))
          ∙ sym (module-at g k new low)
    ])

-- the orders of one transfer more
map-cond : (h : Transfer → Order) (t : Transfer) (b : Bool) → map h (cond b (t ∷ []) []) ≡ cond b (h t ∷ []) []
map-cond h t true = refl
map-cond h t false = refl

pub orders_over-push : (changed : Place → Bool) (k : ℕ) (end : End) (ts : List Transfer) (t : Transfer) (m : ℕ) → orders_over changed k end (ts ++ t ∷ []) m
    ≡ orders_over changed k end ts m ++ with_order (module_at end t) (order_at (changed (source_of t)) k end t) m
orders_over-push changed k end ts t m =
    let h : Transfer → Order = λ x. order_at (changed (source_of x)) k end x in
    let p : Transfer → Bool = λ x. module_at end x == m in
    ap (map h) (filter-append p ts (t ∷ [])) ∙ map-append h (filter p ts) (filter p (t ∷ [])) ∙ ap (λ (os : List Order). map h (filter p ts) ++ os)
    (map-cond h t (p t))

-- the transfers of one number more
pub setting_of-more : (batch : List Transfer) (numbers : List ℕ) (i t : ℕ) → i < length numbers → t ≡ get_or numbers i 0
    → setting_of batch (take (i + 1) numbers) ≡ setting_of batch (take i numbers) ++ transfer_at batch t ∷ []
setting_of-more batch numbers i t l is =
    ap (setting_of batch) (take_more numbers i 0 l) ∙ map-append (transfer_at batch) (take i numbers) (get_or numbers i 0 ∷ [])
    ∙ ap (λ (n : ℕ). setting_of batch (take i numbers) ++ transfer_at batch n ∷ []) (sym is)

pub told_more : (changed : Place → Bool) (k : ℕ) (end : End) (batch : List Transfer) (numbers : List ℕ) (i n : ℕ) (f : ℕ → List Order)
    (modules : List ModuleTold) (at : ℕ) (o : Order) (old new : ModuleTold)
    → i < length numbers → n ≡ get_or numbers i 0 → at ≡ module_at end (transfer_at batch n) → o ≡ order_at (changed (source_of (transfer_at batch n))) k end
    (transfer_at batch n)
    → at < MAX_MODULES → old ≡ get_or modules at old → new ≡ module_told old.«module» (old.orders ++ o ∷ [])
    → modules ≡ all_modules (λ m. f m ++ orders_over changed k end (setting_of batch (take i numbers)) m)
    → set modules at new ≡ all_modules (λ m. f m ++ orders_over changed k end (setting_of batch (take (i + 1) numbers)) m)
told_more changed k end batch numbers i n f modules at o old new l is here order low was pushed are =
    let t = transfer_at batch n in
    let ts = setting_of batch (take i numbers) in
    let g : ℕ → List Order = λ m. f m ++ orders_over changed k end ts m in
    one_told g modules at o old new low are was pushed
    ∙ same_modules (λ m. g m ++ with_order at o m) (λ m. f m ++ orders_over changed k end (setting_of batch (take (i + 1) numbers)) m) (λ m.
    append_assoc (f m) (orders_over changed k end ts m) (with_order at o m)
    ∙ ap (λ (os : List Order). f m ++ os) (ap₂ (λ (x : ℕ) (y : Order). orders_over changed k end ts m ++ with_order x y m) here order
    ∙ sym (orders_over-push changed k end ts t m) ∙ ap (λ (xs : List Transfer). orders_over changed k end xs m)
    (sym (setting_of-more batch numbers i n l is))))

-- ---- a whole setting

-- transfers whose sources are judged alike have the same orders
same_orders : (f g : Place → Bool) (k : ℕ) (end : End) (ts : List Transfer) (m : ℕ) → All (λ t. f (source_of t) ≡ g (source_of t)) ts → orders_over f k end ts m
    ≡ orders_over g k end ts m
same_orders f g k end [] m e = refl
same_orders f g k end (t ∷ ts) m e =
    let P : Transfer → Type 0 = λ x. f (source_of x) ≡ g (source_of x) in
    let rest = same_orders f g k end ts m (All-tail P t ts e) in
    elim (module_at end t == m) as
    (λ b. map (λ x. order_at (f (source_of x)) k end x) (cond b (t ∷ filter (λ x. module_at end x == m) ts) (filter (λ x. module_at end x == m) ts))
    ≡ map (λ x. order_at (g (source_of x)) k end x) (cond b (t ∷ filter (λ x. module_at end x == m) ts) (filter (λ x. module_at end x == m) ts))) [
      | true ↦ ap₂ (λ (b : Bool) (os : List Order). order_at b k end t ∷ os) (All-head P t ts e) rest
      | false ↦ rest
    ]

-- a batch's transfers read blocks of the widest shape
sources_there : (batch : List Transfer) (numbers : List ℕ) → IsBatch batch → All (λ t. t < length batch) numbers → All (λ t. HasPlace widest (source_of t))
    (setting_of batch numbers)
sources_there batch numbers is known =
    All-map (λ t. HasPlace widest (source_of t)) (transfer_at batch) numbers
    (λ k d l. (places_within widest (transfer_at batch (get_or numbers k d)) (is.within (get_or numbers k d) _ (known k d l))).0)

-- the flags after a setting
pub changed_next : (batch : List Transfer) (settings : List (List ℕ)) (k : ℕ) (numbers : List ℕ) (flags : List Bool) → k < length settings → numbers
    ≡ numbers_in settings k → AreChanged (setting_of batch (concat (take k settings)) ++ setting_of batch numbers) flags
    → AreChanged (setting_of batch (concat (take (k + 1) settings))) flags
changed_next batch settings k numbers flags l is h =
    let joined : setting_of batch (concat (take k settings)) ++ setting_of batch numbers ≡ setting_of batch (concat (take (k + 1) settings)) =
    ap (λ (ns : List ℕ). setting_of batch (concat (take k settings)) ++ setting_of batch ns) is
    ∙ sym (map-append (transfer_at batch) (concat (take k settings)) (numbers_in settings k))
    ∙ ap (setting_of batch) (sym (concat_more settings k l)) in
    subst (λ (ts : List Transfer). AreChanged ts flags) joined h

-- by the flags of a setting its orders are those of its changed blocks
by_flags : (batch : List Transfer) (settings : List (List ℕ)) (k : ℕ) (end : End) (flags : List Bool) (numbers : List ℕ) (m : ℕ) → IsBatch batch
    → All (λ t. t < length batch) numbers → numbers ≡ numbers_in settings k → AreChanged (setting_of batch (concat (take (k + 1) settings))) flags
    → orders_over (flag_of flags) k end (setting_of batch numbers) m ≡ orders_over (is_changed batch settings k) k end
    (setting_of batch (numbers_in settings k)) m
by_flags batch settings k end flags numbers m is known same h =
    same_orders (flag_of flags) (is_changed batch settings k) k end (setting_of batch numbers) m
    (λ j d l. h (source_of (get_or (setting_of batch numbers) j d)) (sources_there batch numbers is known j d l))
    ∙ ap (λ (ns : List ℕ). orders_over (is_changed batch settings k) k end (setting_of batch ns) m) same

-- one setting more
pub before_more : (batch : List Transfer) (settings : List (List ℕ)) (k m : ℕ) → orders_before batch settings (k + 1) m ≡ orders_before batch settings k m
    ++ orders_in batch settings m k
before_more batch settings k m = ap (flat_map (orders_in batch settings m)) (range_more k)
    ∙ sym (flat_map_more (orders_in batch settings m) [] (range_with_len 0 k) k)

-- modules with these orders are told those of a setting at one end more
abbrev pub TellsMore : List ModuleTold → List ModuleTold → (ℕ → List Order) → Type 0
TellsMore old new more = (orders : ℕ → List Order) → old ≡ all_modules orders → new ≡ all_modules (λ m. orders m ++ more m)

pub setting_told : (batch : List Transfer) (settings : List (List ℕ)) (k : ℕ) (flags : List Bool) (numbers : List ℕ) (old mid new : List ModuleTold)
    → IsBatch batch → All (λ t. t < length batch) numbers → numbers ≡ numbers_in settings k
    → AreChanged (setting_of batch (concat (take (k + 1) settings))) flags → old ≡ all_modules (orders_before batch settings k)
    → TellsMore old mid (orders_over (flag_of flags) k Zero (setting_of batch numbers))
    → TellsMore mid new (orders_over (flag_of flags) k Three (setting_of batch numbers))
    → new ≡ all_modules (orders_before batch settings (k + 1))
setting_told batch settings k flags numbers old mid new is known same changed are first then_more =
    let a = orders_over (flag_of flags) k Zero (setting_of batch numbers) in
    let b = orders_over (flag_of flags) k Three (setting_of batch numbers) in
    let before = orders_before batch settings k in
    then_more (λ m. before m ++ a m) (first before are)
    ∙ same_modules (λ m. (before m ++ a m) ++ b m) (orders_before batch settings (k + 1)) (λ m.
    append_assoc (before m) (a m) (b m)
    ∙ ap₂ (λ (xs ys : List Order). before m ++ (xs ++ ys)) (by_flags batch settings k Zero flags numbers m is known same changed)
    (by_flags batch settings k Three flags numbers m is known same changed)
    ∙ sym (before_more batch settings k m))

pub idle_all : (modules : List ModuleTold) (n : ℕ) → n ≡ MAX_MODULES → modules ≡ map (λ m. module_told m []) (range_with_len 0 n) → modules
    ≡ all_modules (λ _. [])
unfolding all_modules
idle_all modules n e are = are ∙ ap (λ (k : ℕ). map (λ m. module_told m []) (range_with_len 0 k)) e

-- all orders of all settings
pub told_all : (batch : List Transfer) (settings : List (List ℕ)) (n : ℕ) (modules : List ModuleTold) → n ≡ length settings → modules
    ≡ all_modules (orders_before batch settings n) → rack_told n modules ≡ orders_of batch settings
unfolding orders_of
told_all batch settings n modules e are = ap₂ rack_told e (are ∙ ap (λ (k : ℕ). all_modules (orders_before batch settings k)) e)
