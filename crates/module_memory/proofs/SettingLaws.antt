-- Settings one after another.
use Rattle.std.proofs.Common.{get_or, slice_index, replicate, length-take, length-drop, ◌*◌, Contains, ℕ, ◌≡◌, ◌≢◌, ◌<◌, ◌+◌, ◌-◌, List, [], ◌∷◌, ◌++◌, length, take, drop, refl, sym, ap, ◌∙◌, subst}
use Rattle.std.proofs.Common.{arith, inl, inr, cond, nat_lt, length-append, lt-ltb, le-ltb}
use Rattle.std.proofs.lemmas.List.{get_or_append_left, get_or-append_right}
use Rattle.std.proofs.lemmas.Bool.{cases_lt}
use Rattle.batch.specs.declared.transfer.Place.{Place}
use Rattle.batch.specs.declared.transfer.Transfer.{Transfer}
use Rattle.batch.specs.Places.{HasPlace, source_of, destination_of}
use Rattle.batch.specs.Overlap.{transfer_at, source_at, destination_at}
use Rattle.module_memory.specs.Store.{Store, block_of}
use Rattle.batch.specs.ShapeView.{ShapeView, IsShape}
use Rattle.std.specs.List.{concat}
use Rattle.std.proofs.lemmas.List.{get_or_default, map-append, replicate-append-replicate, length-replicate, get_or-replicate, length-map}
use Rattle.batch.proofs.Places.{place_at, place_index-place_at, HasPlace-place_at}
use Rattle.module_memory.specs.Store.{IsWhole}
use Rattle.module_memory.specs.Core.{FitsIn, IsMovedFrom, found, IsStepList, IsReady, setting_of, times}
use Rattle.module_memory.specs.Settings.{after_steps, IsRun, all_words}
use Rattle.module_memory.specs.Laws.{RunIsPlaced, StopIsMoved, OneAfterAnother, OthersStayReady, AllMovedIsPlaced, WholeBatchIsPlaced}
use Rattle.module_memory.proofs.Blocks.{block_at, block_length}
use Rattle.module_memory.proofs.CoreLaw.{Premises, Premises-from_ready, IsMoved-same, IsPlaced-from_moved, transfer_at-setting_of, distinct_from_apart, unwritten_by_setting, find_destination}
use Rattle.module_memory.proofs.CoreLaw.{complete_moves, each_prefix}

-- no destination of the later transfers is a destination of the earlier ones
abbrev IsLater : List Transfer → List Transfer → Type 0
IsLater ts us = (i j : ℕ) → i < length ts → j < length us → destination_at ts i ≢ destination_at us j

abbrev both_moved : (ts us : List Transfer) → (m n : ℕ → ℕ) → ℕ → ℕ
both_moved ts us m n i = cond (nat_lt i (length ts)) (m i) (n (i - length ts))

abbrev Stands : Store → Store → Store → Transfer → ℕ → Type 0
Stands opening old new t c = block_of new (destination_of t) ≡ take c (block_of opening (source_of t)) ++ drop c (block_of old (destination_of t))

-- one setting after another is both settings at once
moved_after : (opening old mid new : Store) (ts us : List Transfer) (m n : ℕ → ℕ) → FitsIn old.shape ts → FitsIn old.shape us → IsLater ts us
    → IsMovedFrom opening old ts m mid → IsMovedFrom opening mid us n new → IsMovedFrom opening old (ts ++ us) (both_moved ts us m n) new
moved_after opening old mid new ts us m n ft fu later a b =
    let fits = λ (p : Place) (hp : HasPlace old.shape p). subst (λ (x : _). HasPlace x p) (sym a.same_shape) hp in
    record {
      same_shape = b.same_shape ∙ a.same_shape;
      same_length = b.same_length ∙ a.same_length;
      destinations = λ i l. elim (cases_lt i (length ts)) [
        | inl e ↦
            let same : transfer_at (ts ++ us) i ≡ transfer_at ts i = get_or_append_left ts us _ i e in
            let count : both_moved ts us m n i ≡ m i = ap (λ (x : _). cond x (m i) (n (i - length ts))) (lt-ltb i (length ts) e) in
            subst (λ (t : Transfer). Stands opening old new t (both_moved ts us m n i)) (sym same)
            (subst (λ (c : ℕ). Stands opening old new (transfer_at ts i) c) (sym count)
            (b.others (destination_at ts i) (fits (destination_at ts i) (ft i e).1) (λ j k f. later i j e k (sym f))
            ∙ a.destinations i e))
        | inr e ↦
            let j = i - length ts in
            let k : j < length us = omega (arith, length-append ts us) in
            let u = transfer_at us j in
            let same : transfer_at (ts ++ us) i ≡ u = get_or-append_right ts us (length ts) i _ refl e in
            let count : both_moved ts us m n i ≡ n j = ap (λ (x : _). cond x (m i) (n j)) (le-ltb i (length ts) e) in
            subst (λ (t : Transfer). Stands opening old new t (both_moved ts us m n i)) (sym same)
            (subst (λ (c : ℕ). Stands opening old new u c) (sym count)
            (b.destinations j k
            ∙ ap (λ (y : List ℕ). take (n j) (block_of opening (source_of u)) ++ drop (n j) y)
            (a.others (destination_of u) (fu j k).1 (λ q r f. later q j r k f))))
      ];
      others = λ p hp none.
          b.others p (fits p hp)
          (λ j k f. none (length ts + j) (omega (arith, length-append ts us))
          (ap destination_of (get_or-append_right ts us (length ts) (length ts + j) _ refl (omega arith) ∙ ap (λ (x : ℕ). transfer_at us x) (omega arith))
          ∙ f))
          ∙ a.others p hp (λ i l f. none i (omega (arith, length-append ts us)) (ap destination_of (get_or_append_left ts us _ i l) ∙ f));
    }

-- ---- of a batch, by numbers

-- the first numbers of a setting, and the others
pub ready_first : (opening s : Store) (batch : List Transfer) (numbers more : List ℕ) → IsReady opening s batch (numbers ++ more)
    → IsReady opening s batch numbers
ready_first opening s batch numbers more r = record {
  opening_whole = r.opening_whole;
  whole = r.whole;
  same_shape = r.same_shape;
  agrees = r.agrees;
  places = r.places;
  apart = r.apart;
  setting = record {
    known = λ k d l. subst (λ (t : ℕ). t < length batch) (get_or_append_left numbers more d k l)
        (r.setting.known k d (omega (arith, length-append numbers more)));
    distinct = λ i j l m e. r.setting.distinct i j (omega (arith, length-append numbers more)) (omega (arith, length-append numbers more))
        (get_or_append_left numbers more 0 i l ∙ e ∙ sym (get_or_append_left numbers more 0 j m));
  };
}

-- a number of the others
pub in_more : (numbers more : List ℕ) (j d : ℕ) → get_or (numbers ++ more) (length numbers + j) d ≡ get_or more j d
in_more numbers more j d = get_or-append_right numbers more (length numbers) (length numbers + j) d refl (omega arith)
    ∙ ap (λ (x : ℕ). get_or more x d) (omega arith)

ready_more : (opening s : Store) (batch : List Transfer) (numbers more : List ℕ) → IsReady opening s batch (numbers ++ more) → IsReady opening s batch more
ready_more opening s batch numbers more r = record {
  opening_whole = r.opening_whole;
  whole = r.whole;
  same_shape = r.same_shape;
  agrees = r.agrees;
  places = r.places;
  apart = r.apart;
  setting = record {
    known = λ k d l. subst (λ (t : ℕ). t < length batch) (in_more numbers more k d)
        (r.setting.known (length numbers + k) d (omega (arith, length-append numbers more)));
    distinct = λ i j l m e.
        let same : length numbers + i ≡ length numbers + j = r.setting.distinct (length numbers + i) (length numbers + j)
        (omega (arith, length-append numbers more)) (omega (arith, length-append numbers more))
        (in_more numbers more i 0 ∙ e ∙ sym (in_more numbers more j 0)) in
        omega arith;
  };
}

-- numbers of a setting are different numbers of the batch
apart_numbers : (opening s : Store) (batch : List Transfer) (numbers more : List ℕ) → IsReady opening s batch (numbers ++ more) → (i j : ℕ) → i < length numbers
    → j < length more → get_or numbers i 0 ≢ get_or more j 0
apart_numbers opening s batch numbers more r i j l m e =
    let same : i ≡ length numbers + j = r.setting.distinct i (length numbers + j) (omega (arith, length-append numbers more))
    (omega (arith, length-append numbers more)) (get_or_append_left numbers more 0 i l ∙ e ∙ sym (in_more numbers more j 0)) in
    omega arith

-- later transfers of a batch that doesn't overlap
is_later : (opening s : Store) (batch : List Transfer) (numbers more : List ℕ) → IsReady opening s batch (numbers ++ more) → IsLater (setting_of batch numbers)
    (setting_of batch more)
is_later opening s batch numbers more r =
    let first = ready_first opening s batch numbers more r in
    let rest = ready_more opening s batch numbers more r in
    let long = length-map numbers (transfer_at batch) in
    let long_more = length-map more (transfer_at batch) in
    λ i j l m e.
    let hi : i < length numbers = omega (arith, long) in
    let hj : j < length more = omega (arith, long_more) in
    distinct_from_apart batch r.apart (get_or numbers i 0) (get_or more j 0) (first.setting.known i 0 hi) (rest.setting.known j 0 hj)
    (apart_numbers opening s batch numbers more r i j hi hj)
    (ap destination_of (sym (transfer_at-setting_of batch numbers i hi)) ∙ e ∙ ap destination_of (transfer_at-setting_of batch more j hj))

-- the counts of both settings
both_counts : (ts us : List Transfer) (first more : List ℕ) → length first ≡ length ts → (i : ℕ) → both_moved ts us (slice_index first) (slice_index more) i
    ≡ slice_index (first ++ more) i
both_counts ts us first more e i =
    elim (cases_lt i (length ts)) [
      | inl l ↦ ap (λ (b : _). cond b (slice_index first i) (slice_index more (i - length ts))) (lt-ltb i (length ts) l)
          ∙ sym (get_or_append_left first more 0 i (omega arith))
      | inr l ↦ ap (λ (b : _). cond b (slice_index first i) (slice_index more (i - length ts))) (le-ltb i (length ts) l)
          ∙ sym (get_or-append_right first more (length ts) i 0 e l)
    ]

pub one_after_another : OneAfterAnother
one_after_another opening old mid new batch numbers more first then_more r e a b =
    let ts = setting_of batch numbers in
    let us = setting_of batch more in
    let long : length first ≡ length ts = e ∙ sym (length-map numbers (transfer_at batch)) in
    let pt = Premises-from_ready opening old batch numbers (ready_first opening old batch numbers more r) in
    let pu = Premises-from_ready opening old batch more (ready_more opening old batch numbers more r) in
    subst (λ (xs : List Transfer). IsMovedFrom opening old xs (slice_index (first ++ then_more)) new) (sym (map-append (transfer_at batch) numbers more))
    (IsMoved-same opening old (ts ++ us) _ _ new (λ i l. both_counts ts us first then_more long i)
    (moved_after opening old mid new ts us (slice_index first) (slice_index then_more) pt.places pu.places (is_later opening old batch numbers more r) a b))

pub all_moved_is_placed : AllMovedIsPlaced
all_moved_is_placed opening old new batch numbers moved r all h =
    let ts = setting_of batch numbers in
    IsPlaced-from_moved (found batch opening) opening old ts (Premises-from_ready opening old batch numbers r) new
    (IsMoved-same opening old ts moved (λ _. old.shape.words) new (λ i l. all i (omega (arith, length-map numbers (transfer_at batch)))) h)

-- the transfer of a number that stands in a setting
standing : (batch : List Transfer) (numbers : List ℕ) (t : ℕ) → Contains numbers t → (i : ℕ) × (i < length (setting_of batch numbers))
    × (transfer_at (setting_of batch numbers) i ≡ transfer_at batch t)
standing batch numbers t c = (
  c.0,
  omega (arith, c.1, length-map numbers (transfer_at batch)),
  transfer_at-setting_of batch numbers c.0 c.1
      ∙ ap (transfer_at batch) (get_or_default numbers c.0 0 t c.1 ∙ c.2),
)

pub whole_batch_is_placed : WholeBatchIsPlaced
whole_batch_is_placed opening old new batch numbers r all h = record {
  same_shape = h.same_shape;
  same_length = h.same_length;
  destinations = λ t l.
      let f = standing batch numbers t (all t l) in
      subst (λ (x : Transfer). block_of new (destination_of x) ≡ block_of opening (source_of x)) f.2 (h.destinations f.0 f.1);
  others = λ p hp none. h.others p hp (λ i l e.
      let hi : i < length numbers = omega (arith, length-map numbers (transfer_at batch)) in
      none (get_or numbers i 0) (r.setting.known i 0 hi) (ap destination_of (sym (transfer_at-setting_of batch numbers i hi)) ∙ e));
}

-- words that have moved leave a whole store
whole_words : (find : Store → Place → List ℕ) (opening old new : Store) (ts : List Transfer) → Premises find opening old ts → (m : ℕ → ℕ)
    → IsMovedFrom opening old ts m new → (p : Place) → HasPlace old.shape p → length (block_of new p) ≡ old.shape.words
whole_words find opening old new ts pr m h p hp =
    elim (find_destination ts p) [
      | inl f ↦
          let a = block_of opening (source_at ts f.0) in
          let b = block_of old (destination_at ts f.0) in
          let la : length a ≡ old.shape.words = pr.wide f.0 f.1 in
          let lb : length b ≡ old.shape.words = block_length old (destination_at ts f.0) pr.whole (pr.places f.0 f.1).1 in
          let e : block_of new p ≡ take (m f.0) a ++ drop (m f.0) b = ap (block_of new) (sym f.2) ∙ h.destinations f.0 f.1 in
          ap (λ (x : List ℕ). length x) e ∙ omega (arith, la, lb, length-append (take (m f.0) a) (drop (m f.0) b), length-take (m f.0) a, length-drop (m f.0) b)
      | inr none ↦ ap (λ (x : List ℕ). length x) (h.others p hp none) ∙ block_length old p pr.whole hp
    ]

whole_after : (find : Store → Place → List ℕ) (opening old new : Store) (ts : List Transfer) → Premises find opening old ts → (m : ℕ → ℕ)
    → IsMovedFrom opening old ts m new → IsWhole new
whole_after find opening old new ts pr m h = record {
  within = subst IsShape (sym h.same_shape) pr.whole.within;
  all_blocks = h.same_length ∙ pr.whole.all_blocks ∙ ap (λ (x : ShapeView). x.modules * x.blocks) (sym h.same_shape);
  all_words = λ k l.
      let p = place_at old.shape k in
      let hp : HasPlace old.shape p = HasPlace-place_at old.shape k pr.whole.within (omega (arith, h.same_length, pr.whole.all_blocks)) in
      ap (λ (x : List ℕ). length x) (sym (block_at new old.shape p k h.same_shape (place_index-place_at old.shape k)))
      ∙ whole_words find opening old new ts pr m h p hp ∙ ap (λ (x : ShapeView). x.words) (sym h.same_shape);
}

-- what is ready stays so
pub ready_after : OthersStayReady
ready_after opening old new batch numbers more m r h =
    let first = ready_first opening old batch numbers more r in
    let rest = ready_more opening old batch numbers more r in
    record {
      opening_whole = r.opening_whole;
      whole = whole_after (found batch opening) opening old new (setting_of batch numbers) (Premises-from_ready opening old batch numbers first) m h;
      same_shape = h.same_shape ∙ r.same_shape;
      agrees = λ i l none. h.others (source_at batch i) (r.places i l).0 (unwritten_by_setting batch numbers (source_at batch i) first.setting none)
          ∙ r.agrees i l none;
      places = subst (λ (x : ShapeView). FitsIn x batch) (sym h.same_shape) r.places;
      apart = r.apart;
      setting = rest.setting;
    }

-- the counts of settings that are whole
counts_first : (w : ℕ) (numbers : List ℕ) (settings : List (List ℕ)) → replicate (length numbers) w ++ replicate (length (concat settings)) w
    ≡ replicate (length (numbers ++ concat settings)) w
counts_first w numbers settings = replicate-append-replicate (length numbers) (length (concat settings)) w
    ∙ ap (λ (n : ℕ). replicate n w) (sym (length-append numbers (concat settings)))

none_to_move : (opening s t : Store) (batch : List Transfer) → t ≡ s → IsMovedFrom opening s (setting_of batch []) (slice_index []) t
none_to_move opening s t batch e = subst (λ (x : Store). IsMovedFrom opening s [] (slice_index []) x) (sym e)
    (record { same_shape = refl; same_length = refl; destinations = λ i l. absurd (omega arith); others = λ p hp none. refl })

-- a run of settings moves all their words
run_is_moved : (opening s t : Store) (batch : List Transfer) (settings : List (List ℕ)) → IsReady opening s batch (concat settings)
    → IsRun opening s batch settings t → IsMovedFrom opening s (setting_of batch (concat settings)) (slice_index (all_words s settings)) t
run_is_moved opening s t batch [] r h = none_to_move opening s t batch h
run_is_moved opening s t batch (numbers ∷ settings) r h =
    let w = s.shape.words in
    let first = ready_first opening s batch numbers (concat settings) r in
    let ts = setting_of batch numbers in
    let mid = (after_steps opening s batch numbers h.0).store in
    let long = length-map numbers (transfer_at batch) in
    let moved : IsMovedFrom opening s ts (slice_index (replicate (length numbers) w)) mid =
    IsMoved-same opening s ts (λ _. w) _ mid (λ i l. sym (get_or-replicate (length numbers) i w 0 (omega (arith, long))))
    (complete_moves (found batch opening) opening s ts (Premises-from_ready opening s batch numbers first) h.0 h.1) in
    let more : IsMovedFrom opening mid (setting_of batch (concat settings)) (slice_index (all_words mid settings)) t =
    run_is_moved opening mid t batch settings (ready_after opening s mid batch numbers (concat settings) _ r moved) h.2 in
    let words : all_words mid settings ≡ replicate (length (concat settings)) w = ap (λ (x : ShapeView). replicate (length (concat settings)) x.words)
    moved.same_shape in
    subst (λ (c : List ℕ). IsMovedFrom opening s (setting_of batch (numbers ++ concat settings)) (slice_index c) t) (counts_first w numbers settings)
    (one_after_another opening s mid t batch numbers (concat settings) (replicate (length numbers) w) (replicate (length (concat settings)) w) r
    (length-replicate (length numbers) w) moved
    (subst (λ (c : List ℕ). IsMovedFrom opening mid (setting_of batch (concat settings)) (slice_index c) t) words more))

pub run_is_placed : RunIsPlaced
run_is_placed opening s t batch settings r h =
    all_moved_is_placed opening s t batch (concat settings) _ r (λ i l. get_or-replicate (length (concat settings)) i s.shape.words 0 l)
    (run_is_moved opening s t batch settings r h)

pub stop_is_moved : StopIsMoved
stop_is_moved opening s t batch settings numbers steps counts r h e same =
    let first = ready_first opening s batch (concat settings) numbers r in
    let mid = h.before in
    let before = run_is_moved opening s mid batch settings first h.whole_settings in
    let ready = ready_after opening s mid batch (concat settings) numbers _ r before in
    let ts = setting_of batch numbers in
    let list : IsStepList ts mid.shape.words steps = subst (λ (x : ShapeView). IsStepList ts x.words steps) (sym before.same_shape) h.step_list in
    let moved : IsMovedFrom opening mid ts (λ i. times i steps) t = subst (λ (x : Store). IsMovedFrom opening mid ts (λ i. times i steps) x) (sym h.stopped)
    (each_prefix opening mid batch numbers ready steps list) in
    one_after_another opening s mid t batch (concat settings) numbers (all_words s settings) counts r
    (length-replicate (length (concat settings)) s.shape.words) before
    (IsMoved-same opening mid ts _ _ t (λ i l. sym (same i (omega (arith, length-map numbers (transfer_at batch))))) moved)
