-- The text of the orders of a schedule tells them: all their numbers are numbers of a text.
use Rattle.std.proofs.Common.{ℕ, zero, suc, Bool, ◌==◌, ◌≤◌, ◌<◌, ◌+◌, ◌*◌, List, [], length, length-append, map, take, get_or, refl, sym, ap, subst, arith, add-one}
use Rattle.std.specs.Prelude.{Contains, filter}
use Rattle.std.specs.List.{concat, range_with_len}
use Rattle.std.proofs.lemmas.Bool.{eqb-true}
use Rattle.std.proofs.lemmas.Bool.Decides.{Decides-eqb}
use Rattle.std.proofs.lemmas.List.{length-map, take_all}
use Rattle.std.proofs.lemmas.List.Elements.{All-contains, All-filter, All-map, Contains-get_or}
use Rattle.std.proofs.lemmas.List.FromFn.{length-range_with_len}
use Rattle.std.proofs.lemmas.List.Sums.{count_by-le-length, length-filter}
use Rattle.std.proofs.lemmas.Map.Made.{IsDistinct-from_AllPairs}
use Rattle.std.proofs.lemmas.Map.Steps.{length-le_from_distinct_below}
use Rattle.batch.proofs.Lists.{concat_more}
use Rattle.batch.specs.Batches.{IsBatch}
use Rattle.batch.specs.Overlap.{no_transfer, transfer_at}
use Rattle.batch.specs.Places.{source_of}
use Rattle.batch.specs.Text.{IsNumber}
use Rattle.batch.specs.declared.limits.TheConstants.{MAX_BLOCKS, MAX_MODULES}
use Rattle.batch.specs.declared.transfer.Place.{Place}
use Rattle.batch.specs.declared.transfer.Transfer.{Transfer}
use Rattle.link_graph.proofs.Once.{is_known, is_once}
use Rattle.link_graph.specs.Counts.{module_at}
use Rattle.link_graph.specs.Schedules.{IsScheduleOf}
use Rattle.link_graph.specs.declared.link.End.{End}
use Rattle.link_graph.specs.declared.link.End.TheVariants.{Zero, Three}
use Rattle.module_memory.specs.Core.{setting_of}
use Rattle.switch_settings.specs.Settings.{numbers_in}
use Rattle.module_orders.specs.Laws.{IsTold}
use Rattle.module_orders.specs.Orders.{ModuleTold, all_modules, block_at, is_changed, is_told, module_told, order_at, orders_before, orders_in, orders_of, orders_over}
use Rattle.module_orders.specs.OrdersText.{CanSpell, CanTell}
use Rattle.module_orders.specs.declared.order.Order.{Order}
use Rattle.module_orders.proofs.Meeting.{of_end, over_is}
use Rattle.module_orders.proofs.Members.{in_any, in_flat_map, in_range}
use Rattle.module_orders.proofs.Telling.{before_more}

-- ---- how many orders a module has

over_few : (changed : Place → Bool) (k : ℕ) (end : End) (batch : List Transfer) (numbers : List ℕ) (m : ℕ)
    → length (orders_over changed k end (setting_of batch numbers) m) ≤ length numbers
over_few changed k end batch numbers m =
    let ts = setting_of batch numbers in
    let own : Transfer → Bool = λ x. module_at end x == m in
    omega (
      arith,
      length-map (filter own ts) (λ x. order_at (changed (source_of x)) k end x),
      length-filter own ts,
      count_by-le-length own ts,
      length-map numbers (transfer_at batch),
    )

few_in : (batch : List Transfer) (settings : List (List ℕ)) (k m : ℕ) → length (orders_in batch settings m k) ≤ 2 * length (numbers_in settings k)
few_in batch settings k m =
    let numbers = numbers_in settings k in
    let changed = is_changed batch settings k in
    omega (
      arith,
      length-append (orders_over changed k Zero (setting_of batch numbers) m) (orders_over changed k Three (setting_of batch numbers) m),
      over_few changed k Zero batch numbers m,
      over_few changed k Three batch numbers m,
    )

few_before : (batch : List Transfer) (settings : List (List ℕ)) (count m : ℕ) → count ≤ length settings → length (orders_before batch settings count m) ≤ 2 *
    length (concat (take count settings))
few_before batch settings zero m l = omega arith
few_before batch settings (suc n) m l =
    let more : length (orders_before batch settings (n + 1) m) ≤ 2 * length (concat (take (n + 1) settings)) = omega (
      arith,
      ap length (before_more batch settings n m),
      length-append (orders_before batch settings n m) (orders_in batch settings m n),
      few_in batch settings n m,
      ap length (concat_more settings n (omega (arith, l))),
      length-append (concat (take n settings)) (numbers_in settings n),
      few_before batch settings n m (omega (arith, l)),
    ) in
    subst (λ (c : ℕ). length (orders_before batch settings c m) ≤ 2 * length (concat (take c settings))) (add-one n) more

-- a schedule has no more numbers than its batch has transfers
few_numbers : (batch : List Transfer) (settings : List (List ℕ)) → IsScheduleOf batch settings → length (concat settings) ≤ length batch
few_numbers batch settings schedule =
    let numbers = concat settings in
    length-le_from_distinct_below numbers (length batch) (IsDistinct-from_AllPairs Decides-eqb numbers (is_once batch settings schedule).distinct) (λ q some.
    let one = in_any (λ n. q == n) numbers some in
    subst (λ (n : ℕ). n < length batch) (sym (eqb-true q one.0 one.2)) (All-contains (λ n. n < length batch) numbers one.0 (is_known batch settings schedule)
    one.1))

-- ---- what an order and a module say

block_low : (batch : List Transfer) (end : End) (t : ℕ) → IsBatch batch → t < length batch → block_at end (transfer_at batch t) < MAX_BLOCKS
block_low batch Zero t is l = (is.within t no_transfer l).1.0
block_low batch Three t is l = (is.within t no_transfer l).1.1

can_spell : (batch : List Transfer) (settings : List (List ℕ)) (m : ℕ) (o : Order) → IsBatch batch → IsScheduleOf batch settings → IsNumber (length settings)
    → Contains (orders_before batch settings (length settings) m) o → CanSpell o
can_spell batch settings m o is schedule fits c =
    let one = in_flat_map (orders_in batch settings m) (range_with_len 0 (length settings)) o c in
    let n = one.0 in
    let l = in_range (length settings) n one.1 in
    let numbers = numbers_in settings n in
    let side = of_end (λ (end : End). orders_over (is_changed batch settings n) n end (setting_of batch numbers) m) o one.2 in
    let f = over_is (is_changed batch settings n) n side.0 batch numbers m o side.1 in
    let known = All-contains (λ t. t < length batch) numbers f.0 (schedule.no_other n [] l) f.1 in
    subst CanSpell (sym f.3) (record { setting = omega (arith, l, fits); block = omega (arith, block_low batch side.0 f.0 is known) })

can_tell : (batch : List Transfer) (settings : List (List ℕ)) (m : ℕ) → IsBatch batch → IsScheduleOf batch settings → IsNumber (length settings)
    → m < MAX_MODULES → CanTell (module_told m (orders_before batch settings (length settings) m))
can_tell batch settings m is schedule fits l =
    let orders = orders_before batch settings (length settings) m in
    record {
      number = omega (arith, l);
      many = omega (
        arith,
        few_before batch settings (length settings) m (omega arith),
        ap (λ (ss : List (List ℕ)). length (concat ss))
            (take_all (length settings) settings (omega arith)),
        few_numbers batch settings schedule,
        is.few,
      );
      orders = λ k d low. can_spell batch settings m (get_or orders k d) is schedule fits (Contains-get_or orders k d low);
    }

pub text_tells : IsTold
unfolding orders_of all_modules
text_tells batch settings only is schedule fits =
    let all : ℕ → ModuleTold = λ m. module_told m (orders_before batch settings (length settings) m) in
    let range = range_with_len 0 MAX_MODULES in
    record {
      spelled = refl;
      count = omega (
        arith,
        length-filter (is_told only) (map all range),
        count_by-le-length (is_told only) (map all range),
        length-map range all,
        length-range_with_len 0 MAX_MODULES,
      );
      settings = fits;
      modules = All-filter (is_told only) CanTell (map all range)
          (All-map CanTell all range
          (λ k d l. can_tell batch settings (get_or range k d) is schedule fits (in_range MAX_MODULES (get_or range k d) (Contains-get_or range k d l))));
    }
