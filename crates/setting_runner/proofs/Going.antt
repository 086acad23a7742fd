-- A run between two settings.
use Rattle.std.proofs.Common.{◌≡◌, ◌<◌, ◌≤◌, ◌+◌, ◌-◌, ◌*◌, inl, inr, ℕ, zero, suc, List, [], ◌∷◌, ◌++◌, length, take, drop, get_or, refl, sym, ap, ◌∙◌, arith, subst, length-append}
use Rattle.std.specs.Prelude.{slice_index, All}
use Rattle.std.specs.List.{concat}
use Rattle.std.proofs.lemmas.Bool.{cases_lt}
use Rattle.std.proofs.lemmas.List.{take_more, take_all, get_or-map, length-map, length-take, length-drop}
use Rattle.batch.specs.ShapeView.{ShapeView}
use Rattle.batch.specs.Places.{HasPlace, source_of, destination_of}
use Rattle.batch.specs.Overlap.{transfer_at, source_at, destination_at}
use Rattle.batch.specs.declared.transfer.Transfer.{Transfer}
use Rattle.module_memory.specs.Store.{Store, block_of}
use Rattle.module_memory.specs.Core.{AgreesAtSources, FitsIn, IsComplete, IsMovedFrom, IsReady, IsStepList, setting_of}
use Rattle.module_memory.specs.Lending.{BlockAt, RestView, found_in, bay_in, store_rejoined, Rejoins}
use Rattle.module_memory.specs.Bays.{AreBaysOf, AreFound, AreSamePlaces}
use Rattle.module_memory.specs.Settings.{after_steps, IsRun, IsStoppedRun}
use Rattle.module_memory.proofs.CoreLaw.{transfer_at-setting_of, unwritten_by_setting}
use Rattle.module_memory.proofs.Blocks.{block_length}
use Rattle.module_memory.proofs.BayLaws.{shape-joined, hold_the_counts, stay_lent, stay_whole, bays_are_wide}
use Rattle.module_memory.proofs.SettingLaws.{run_is_placed, stop_is_moved, whole_batch_is_placed}
use Rattle.module_memory.proofs.StepLists.{counts_are_reached}
use Rattle.link_graph.proofs.Once.{is_once}
use Rattle.setting_runner.specs.Moves.{AreMovable, HaveMoved, none_sure, all_moved}
use Rattle.crossbar.specs.Chips.{Switches}
use Rattle.crossbar.specs.Pairs.{AreSwitchesOf, room_of, switch_of}
use Rattle.crossbar.specs.declared.chip.Wiring.{Wiring}
use Rattle.crossbar.specs.declared.pair.Pair.{Pair}
use Rattle.setting_runner.specs.Runs.{AreSettingSwitches, IsPrepared, IsCompleted, HasStoppedIn, HasOwnBays, words_of}
use Rattle.switch_settings.specs.Racks.{HasModulesOf}
use Rattle.switch_settings.specs.Settings.{numbers_in, setting_pairs}
use Rattle.switch_settings.proofs.Joined.{same_switches}
use Rattle.setting_runner.proofs.Racks.{has_modules}
use Rattle.setting_runner.proofs.Causes.{names_moved, most_moved}
use Rattle.setting_runner.proofs.Moves.{HaveMoved-length}
use Rattle.setting_runner.proofs.Parts.{are_filled, length_part, movable_from, no_bay, part_at}
use Rattle.batch.proofs.Lists.{concat_more}
use Rattle.setting_runner.proofs.Schedules.{are_settings, numbers_are_counted}

-- what it has after some settings
pub record Going (rest : RestView) (first bays : List BlockAt) (batch : List Transfer) (settings : List (List ℕ)) (k : ℕ) : Type 0 where
  pub places : AreSamePlaces first bays
  pub rejoins : Rejoins rest.store bays
  pub agrees : AgreesAtSources (store_rejoined rest.store first) batch (store_rejoined rest.store bays)
  pub machine : IsRun (store_rejoined rest.store first) (store_rejoined rest.store first) batch (take k settings) (store_rejoined rest.store bays)

own_bays : (rest : RestView) (first bays : List BlockAt) (batch : List Transfer) (settings : List (List ℕ)) (k : ℕ) → IsPrepared rest first batch settings
    → Going rest first bays batch settings k → k < length settings → HasOwnBays rest.store bays batch settings k
own_bays rest first bays batch settings k b g h = stay_lent rest.store first bays (length (concat (take k settings))) (setting_of batch (numbers_in settings k))
    (b.own_bays k h) g.places

-- the settings that are still to come are ready
ready_now : (rest : RestView) (first bays : List BlockAt) (batch : List Transfer) (settings : List (List ℕ)) (k : ℕ) → IsPrepared rest first batch settings
    → Going rest first bays batch settings k → k < length settings → IsReady (store_rejoined rest.store first) (store_rejoined rest.store bays) batch
    (numbers_in settings k)
ready_now rest first bays batch settings k b g h = record {
  opening_whole = b.ready.whole;
  whole = g.rejoins.whole;
  same_shape = shape-joined rest.store bays ∙ sym (shape-joined rest.store first);
  agrees = g.agrees;
  places = subst (λ (x : ShapeView). FitsIn x batch) (shape-joined rest.store first ∙ sym (shape-joined rest.store bays)) b.ready.places;
  apart = b.ready.apart;
  setting = (are_settings batch settings k b.schedule h).own;
}

-- what a transfer finds has all words of a block
found_wide : (rest : RestView) (first : List BlockAt) (batch : List Transfer) (settings : List (List ℕ)) (t : ℕ) → IsPrepared rest first batch settings
    → t < length batch → length (found_in rest (source_at batch t)) ≡ rest.store.shape.words
found_wide rest first batch settings t b h =
    ap (λ (x : List ℕ). length x) (b.found t h) ∙ block_length (store_rejoined rest.store first) (source_at batch t) b.ready.whole (b.ready.places t h).0
    ∙ ap (λ (x : ShapeView). x.words) (shape-joined rest.store first)

pub part_within : (rest : RestView) (first bays : List BlockAt) (batch : List Transfer) (settings : List (List ℕ)) (k a n : ℕ)
    → IsPrepared rest first batch settings → Going rest first bays batch settings k → k < length settings → a ≡ length (concat (take k settings)) → n
    ≡ length (numbers_in settings k) → a + n ≤ length bays
part_within rest first bays batch settings k a n b g h ea en =
    let own = own_bays rest first bays batch settings k b g h in
    omega (arith, own.within, length-map (numbers_in settings k) (transfer_at batch))

-- the transfers of the next setting can move their words into their part of the bays
pub part_movable : (rest : RestView) (first bays : List BlockAt) (batch : List Transfer) (settings : List (List ℕ)) (k a n : ℕ)
    → IsPrepared rest first batch settings → Going rest first bays batch settings k → k < length settings → a ≡ length (concat (take k settings)) → n
    ≡ length (numbers_in settings k)
    → AreMovable rest batch (numbers_in settings k) (take n (drop a bays))
part_movable rest first bays batch settings k a n b g h ea en =
    let numbers = numbers_in settings k in
    let ts = setting_of batch numbers in
    let own = subst (λ (x : ℕ). AreBaysOf rest.store bays x ts) (sym ea) (own_bays rest first bays batch settings k b g h) in
    let long = length-map numbers (transfer_at batch) in
    let setting = (are_settings batch settings k b.schedule h).own in
    movable_from rest batch numbers (take n (drop a bays)) (omega (arith, length_part bays a n (part_within rest first bays batch settings k a n b g h ea en)))
    (λ i l.
    let below : i < length ts = omega arith in
    let wide = bays_are_wide rest.store bays a ts i own g.rejoins below in
    let destination : destination_at ts i ≡ destination_at batch (get_or numbers i 0) = ap destination_of (transfer_at-setting_of batch numbers i l) in
    let bay = part_at bays a n i (omega arith) in
    record {
      known = setting.known i 0 l;
      source_exists = subst (λ (x : ShapeView). HasPlace x (source_at batch (get_or numbers i 0))) (shape-joined rest.store first)
          (b.ready.places (get_or numbers i 0) (setting.known i 0 l)).0;
      source_here = found_wide rest first batch settings (get_or numbers i 0) b (setting.known i 0 l);
      place = ap (λ (x : BlockAt). x.place) bay ∙ own.destinations i below ∙ destination;
      bay_exists = subst (λ (x : BlockAt). HasPlace rest.store.shape x.place) (sym bay) (g.rejoins.exist (a + i) no_bay (omega (arith, own.within)));
      bay_width = ap (λ (x : BlockAt). length x.words) bay ∙ wide;
    })

past_end : (xs : List ℕ) (i : ℕ) → length xs ≤ i → slice_index xs i ≡ 0
past_end [] i h = refl
past_end (x ∷ xs) zero h = absurd (omega arith)
past_end (x ∷ xs) (suc i) h = past_end xs i (omega arith)

-- no transfer has moved more words than a block has
few_words : (rest : RestView) (batch : List Transfer) (ts : List ℕ) (os ns : List BlockAt) (ms : List (ℕ × ℕ)) (i : ℕ) → HaveMoved none_sure rest batch ts os ns
    ms → slice_index (words_of ms) i ≤ rest.store.shape.words
few_words rest batch ts os ns ms i moves = elim (cases_lt i (length ms)) [
  | inl l ↦ let most = most_moved none_sure rest batch ts os ns ms moves i (0, 0) l in omega (arith, get_or-map (λ (m : ℕ × ℕ). m.1) ms i (0, 0) 0 l)
  | inr l ↦ omega (arith, past_end (words_of ms) i (omega (arith, length-map ms (λ (m : ℕ × ℕ). m.1))))
]

all_at : (numbers : List ℕ) (words i : ℕ) → i < length numbers → slice_index (words_of (all_moved numbers words)) i ≡ words
all_at [] words i h = absurd (omega arith)
all_at (t ∷ ts) words zero h = refl
all_at (t ∷ ts) words (suc i) h = all_at ts words i (omega arith)

-- a setting that was worked on
record Worked (rest : RestView) (first bays new : List BlockAt) (batch : List Transfer) (settings : List (List ℕ)) (k : ℕ) (ms : List (ℕ × ℕ)) : Type 0 where
  places : AreSamePlaces first new
  rejoins : Rejoins rest.store new
  moved : IsMovedFrom (store_rejoined rest.store first) (store_rejoined rest.store bays) (setting_of batch (numbers_in settings k)) (slice_index (words_of ms))
      (store_rejoined rest.store new)

same_places_twice : (a b c : List BlockAt) → AreSamePlaces a b → AreSamePlaces b c → AreSamePlaces a c
same_places_twice a b c x y = record {
  same_length = y.same_length ∙ x.same_length;
  same_places = λ k h. y.same_places k (omega (arith, x.same_length)) ∙ x.same_places k h;
}

mixed_length : (c : ℕ) (from old : List ℕ) → length from ≡ length old → c ≤ length old → length (take c from ++ drop c old) ≡ length old
mixed_length c from old e h = omega (arith, length-append (take c from) (drop c old), length-take {A = ℕ}, length-drop {A = ℕ})

worked : (rest : RestView) (first bays part : List BlockAt) (batch : List Transfer) (settings : List (List ℕ)) (k a n : ℕ) (ms : List (ℕ × ℕ))
    → IsPrepared rest first batch settings → Going rest first bays batch settings k → k < length settings → a ≡ length (concat (take k settings)) → n
    ≡ length (numbers_in settings k)
    → HaveMoved none_sure rest batch (numbers_in settings k) (take n (drop a bays)) part ms
    → Worked rest first bays (take a bays ++ (part ++ drop n (drop a bays))) batch settings k ms
worked rest first bays part batch settings k a n ms b g h ea en moves =
    let numbers = numbers_in settings k in
    let ts = setting_of batch numbers in
    let new = take a bays ++ (part ++ drop n (drop a bays)) in
    let own = subst (λ (x : ℕ). AreBaysOf rest.store bays x ts) (sym ea) (own_bays rest first bays batch settings k b g h) in
    let long = length-map numbers (transfer_at batch) in
    let known = (are_settings batch settings k b.schedule h).own.known in
    let found : AreFound (found_in rest) (store_rejoined rest.store first) ts = λ i l.
    let below : i < length numbers = omega (arith, long) in
    subst (λ (t : Transfer). found_in rest (source_of t) ≡ block_of (store_rejoined rest.store first) (source_of t))
    (sym (transfer_at-setting_of batch numbers i below)) (b.found (get_or numbers i 0) (known i 0 below)) in
    let source_wide : (i : ℕ) → i < length ts → length (found_in rest (source_at ts i)) ≡ rest.store.shape.words = λ i l.
    let below : i < length numbers = omega (arith, long) in
    subst (λ (t : Transfer). length (found_in rest (source_of t)) ≡ rest.store.shape.words) (sym (transfer_at-setting_of batch numbers i below))
    (found_wide rest first batch settings (get_or numbers i 0) b (known i 0 below)) in
    let filled = are_filled rest batch bays part numbers ms a n en (part_within rest first bays batch settings k a n b g h ea en) moves in
    record {
      places = same_places_twice first bays new g.places filled.places;
      rejoins = stay_whole rest.store bays new own.lent filled.places
          (λ j l. elim (cases_lt j a) [
            | inl low ↦ ap (length {A = ℕ}) (filled.others j l (inl low))
            | inr high ↦ elim (cases_lt j (a + n)) [
              | inl mid ↦
                  let i = j - a in
                  let below : i < length ts = omega arith in
                  let wide = bays_are_wide rest.store bays a ts i own g.rejoins below in
                  let c : slice_index (words_of ms) i ≤ rest.store.shape.words = few_words rest batch numbers (take n (drop a bays)) part ms i moves in
                  subst (λ (x : ℕ). length (bay_in new x).words ≡ length (bay_in bays x).words) (omega arith)
                  (ap (length {A = ℕ}) (filled.filled i below) ∙ mixed_length (slice_index (words_of ms) i) (found_in rest (source_at ts i))
                  (bay_in bays (a + i)).words (source_wide i below ∙ sym wide) (omega (arith, wide)))
              | inr past ↦ ap (length {A = ℕ}) (filled.others j l (inr (omega arith)))
            ]
          ])
          g.rejoins;
      moved = hold_the_counts (found_in rest) (store_rejoined rest.store first) rest.store bays new a ts (slice_index (words_of ms)) own found filled;
    }

IsRun-push : (opening s t : Store) (batch : List Transfer) (ss : List (List ℕ)) (numbers steps : List ℕ) → IsRun opening s batch ss t
    → IsComplete (setting_of batch numbers) t.shape.words steps → IsRun opening s batch (ss ++ numbers ∷ []) (after_steps opening t batch numbers steps).store
IsRun-push opening s t batch [] numbers steps r done = (
  steps,
  subst (λ (u : Store). IsComplete (setting_of batch numbers) u.shape.words steps) r done,
  ap (λ (u : Store). (after_steps opening u batch numbers steps).store) r,
)
IsRun-push opening s t batch (n ∷ ss) numbers steps r done =
    (r.0, r.1, IsRun-push opening (after_steps opening s batch n r.0).store t batch ss numbers steps r.2 done)

-- what no transfer of the batch writes stays as it was
agrees_after : (rest : RestView) (first bays new : List BlockAt) (batch : List Transfer) (settings : List (List ℕ)) (k : ℕ) (ms : List (ℕ × ℕ))
    → IsPrepared rest first batch settings → Going rest first bays batch settings k → k < length settings → Worked rest first bays new batch settings k ms
    → AgreesAtSources (store_rejoined rest.store first) batch (store_rejoined rest.store new)
agrees_after rest first bays new batch settings k ms b g h w i l none =
    let p = source_at batch i in
    let own = (are_settings batch settings k b.schedule h).own in
    w.moved.others p (subst (λ (x : ShapeView). HasPlace x p) (shape-joined rest.store first ∙ sym (shape-joined rest.store bays)) (b.ready.places i l).0)
    (unwritten_by_setting batch (numbers_in settings k) p own none)
    ∙ g.agrees i l none

-- one setting more
pub going_next : (rest : RestView) (first bays part : List BlockAt) (batch : List Transfer) (settings : List (List ℕ)) (k a n : ℕ)
    → IsPrepared rest first batch settings → Going rest first bays batch settings k → k < length settings → a ≡ length (concat (take k settings)) → n
    ≡ length (numbers_in settings k)
    → HaveMoved none_sure rest batch (numbers_in settings k) (take n (drop a bays)) part (all_moved (numbers_in settings k) rest.store.shape.words)
    → Going rest first (take a bays ++ (part ++ drop n (drop a bays))) batch settings (k + 1)
going_next rest first bays part batch settings k a n b g h ea en moves =
    let numbers = numbers_in settings k in
    let ts = setting_of batch numbers in
    let mid = store_rejoined rest.store bays in
    let ms = all_moved numbers rest.store.shape.words in
    let new = take a bays ++ (part ++ drop n (drop a bays)) in
    let w = worked rest first bays part batch settings k a n ms b g h ea en moves in
    let shape = shape-joined rest.store bays in
    let words : mid.shape.words ≡ rest.store.shape.words = ap (λ (x : ShapeView). x.words) shape in
    let all = all_at numbers rest.store.shape.words in
    let ready = ready_now rest first bays batch settings k b g h in
    let reach = counts_are_reached (store_rejoined rest.store first) mid (store_rejoined rest.store new) batch numbers (slice_index (words_of ms)) ready
    (λ i l. omega (arith, all i l)) w.moved in
    let long = length-map numbers (transfer_at batch) in
    let done : IsComplete ts mid.shape.words reach.0 =
    record { known = reach.1.known; complete = λ i l. omega (arith, reach.2 i (omega arith), all i (omega arith)) } in
    record {
      places = w.places;
      rejoins = w.rejoins;
      agrees = agrees_after rest first bays new batch settings k ms b g h w;
      machine = subst (λ (x : List (List ℕ)). IsRun (store_rejoined rest.store first) (store_rejoined rest.store first) batch x (store_rejoined rest.store new))
          (sym (take_more settings k [] h))
          (subst (λ (x : Store). IsRun (store_rejoined rest.store first) (store_rejoined rest.store first) batch (take k settings ++ numbers ∷ []) x)
          (sym reach.3) (IsRun-push (store_rejoined rest.store first) (store_rejoined rest.store first) mid batch (take k settings) numbers reach.0
          g.machine done));
    }

-- a setting that stops
pub going_stops : (rest : RestView) (first bays part : List BlockAt) (batch : List Transfer) (settings : List (List ℕ)) (k a n : ℕ) (ms : List (ℕ × ℕ))
    → IsPrepared rest first batch settings → Going rest first bays batch settings k → k < length settings → a ≡ length (concat (take k settings)) → n
    ≡ length (numbers_in settings k)
    → HaveMoved none_sure rest batch (numbers_in settings k) (take n (drop a bays)) part ms
    → HasStoppedIn (store_rejoined rest.store first) batch settings k ms (store_rejoined rest.store (take a bays ++ (part ++ drop n (drop a bays))))
    × Rejoins rest.store (take a bays ++ (part ++ drop n (drop a bays)))
going_stops rest first bays part batch settings k a n ms b g h ea en moves =
    let s = store_rejoined rest.store first in
    let numbers = numbers_in settings k in
    let ts = setting_of batch numbers in
    let mid = store_rejoined rest.store bays in
    let new = take a bays ++ (part ++ drop n (drop a bays)) in
    let w = worked rest first bays part batch settings k a n ms b g h ea en moves in
    let words : mid.shape.words ≡ rest.store.shape.words = ap (λ (x : ShapeView). x.words) (shape-joined rest.store bays) in
    let same : s.shape.words ≡ rest.store.shape.words = ap (λ (x : ShapeView). x.words) (shape-joined rest.store first) in
    let ready = ready_now rest first bays batch settings k b g h in
    let reach = counts_are_reached (store_rejoined rest.store first) mid (store_rejoined rest.store new) batch numbers (slice_index (words_of ms)) ready
    (λ i l. omega (arith, few_words rest batch numbers (take n (drop a bays)) part ms i moves)) w.moved in
    let many = HaveMoved-length none_sure rest batch numbers (take n (drop a bays)) part ms moves in
    let stopped : IsStoppedRun s s batch (take k settings) numbers reach.0 (store_rejoined rest.store new) =
    record { before = mid; whole_settings = g.machine; step_list = subst (λ (x : ℕ). IsStepList ts x reach.0) (words ∙ sym same) reach.1; stopped = reach.3 } in
    let upto : IsReady s s batch (concat (take k settings) ++ numbers) =
    record {
      opening_whole = b.ready.whole;
      whole = b.ready.whole;
      same_shape = refl;
      agrees = b.ready.agrees;
      places = b.ready.places;
      apart =
          b.ready.apart;
      setting = (are_settings batch settings k b.schedule h).up_to;
    } in (
      record {
        within = h;
        named = names_moved none_sure rest batch numbers (take n (drop a bays)) part ms moves;
        at_most = subst (λ (x : ℕ). All (λ (m : ℕ × ℕ). m.1 ≤ x) ms) (sym same) (most_moved none_sure rest batch numbers (take n (drop a bays)) part ms moves);
        steps = reach.0;
        counted = λ i l. reach.2 i (omega arith);
        machine = stopped;
        store = stop_is_moved s s (store_rejoined rest.store new) batch (take k settings) numbers reach.0 (words_of ms) upto stopped
            (length-map ms (λ (m : ℕ × ℕ). m.1) ∙ many) (λ i l. sym (reach.2 i l));
      },
      w.rejoins,
    )

-- the rack has the modules of the batch
pub rack_has : (rest : RestView) (first : List BlockAt) (batch : List Transfer) (settings : List (List ℕ)) → IsPrepared rest first batch settings
    → HasModulesOf rest.store.shape.modules batch
rack_has rest first batch settings b =
    has_modules rest.store.shape batch (subst (λ (x : ShapeView). FitsIn x batch) (shape-joined rest.store first) b.ready.places)

-- switches that are set to pairs which join what those of a setting do are the setting's
pub setting_switches : (rest : RestView) (first : List BlockAt) (batch : List Transfer) (settings : List (List ℕ)) (k : ℕ) (numbers : List ℕ)
    (pairs : List Pair) (s : Switches) → IsPrepared rest first batch settings → numbers ≡ numbers_in settings k
    → ((w : Wiring) → rest.store.shape.modules ≤ room_of w → switch_of w pairs ≡ switch_of w (setting_pairs batch numbers))
    → AreSwitchesOf rest.store.shape.modules pairs s → AreSettingSwitches rest.store.shape batch settings k s
setting_switches rest first batch settings k numbers pairs s b en joins is =
    let modules : (store_rejoined rest.store first).shape.modules ≡ rest.store.shape.modules =
    ap (λ (x : ShapeView). x.modules) (shape-joined rest.store first) in
    subst (λ (x : List ℕ). AreSwitchesOf rest.store.shape.modules (setting_pairs batch x) s) en
    (same_switches rest.store.shape.modules pairs (setting_pairs batch numbers) s (omega (arith, modules, b.ready.whole.within.few_modules)) joins is)

-- all settings are done
pub going_completes : (rest : RestView) (first bays : List BlockAt) (batch : List Transfer) (settings : List (List ℕ)) (k : ℕ)
    → IsPrepared rest first batch settings → Going rest first bays batch settings k → length settings ≤ k → (words : ℕ) → words
    ≡ length (concat (take k settings)) * rest.store.shape.words
    → IsCompleted (store_rejoined rest.store first) batch settings (length settings) words (store_rejoined rest.store bays)
going_completes rest first bays batch settings k b g h words e =
    let s = store_rejoined rest.store first in
    let all = take_all k settings h in
    let run = subst (λ (x : List (List ℕ)). IsRun s s batch x (store_rejoined rest.store bays)) all g.machine in
    let placed = run_is_placed s s (store_rejoined rest.store bays) batch settings b.ready run in
    let same : rest.store.shape.words ≡ s.shape.words = sym (ap (λ (x : ShapeView). x.words) (shape-joined rest.store first)) in
    record {
      all_settings = refl;
      all_moved = e ∙ ap (λ (x : List (List ℕ)). length (concat x) * rest.store.shape.words) all ∙ ap (λ (x : ℕ). x * rest.store.shape.words)
          (numbers_are_counted batch settings b.schedule) ∙ ap (λ (x : ℕ). length batch * x) same;
      machine = run;
      placed = whole_batch_is_placed s s (store_rejoined rest.store bays) batch (concat settings) b.ready (is_once batch settings b.schedule).every placed;
    }

-- where the numbers of the next setting begin
pub next_begins : (batch : List Transfer) (settings : List (List ℕ)) (k a n : ℕ) → k < length settings → a ≡ length (concat (take k settings)) → n
    ≡ length (numbers_in settings k) → a + n ≡ length (concat (take (k + 1) settings))
next_begins batch settings k a n h ea en =
    omega (arith, ap (length {A = ℕ}) (concat_more settings k h), length-append (concat (take k settings)) (numbers_in settings k))
