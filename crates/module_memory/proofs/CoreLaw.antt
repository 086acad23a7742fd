use Rattle.std.proofs.Common.{zero, suc, Bool, eq-eqb, ne_eqb, ℕ, ◌≡◌, ◌≢◌, ◌≤◌, ◌<◌, ◌+◌, ◌==◌, cond, List, [], ◌∷◌, ◌++◌, length, map, take, drop, get_or, set, slice_index, refl, sym, ap, ap₂, ◌∙◌}
use Rattle.std.proofs.Common.{subst, arith, length-set, get_or-set_same, get_or-set_other, ◌⊎◌, inl, inr, All, append_assoc, length-take-le, take_all}
use Rattle.std.proofs.lemmas.List.{drop_more, take_more, set_at, get_or-map, length-map, drop_all, append-nil}
use Rattle.std.proofs.lemmas.List.Sums.{sum_by-cons}
use Rattle.std.proofs.lemmas.Bool.{cases_eq, cases_lt}
use Rattle.batch.specs.ShapeView.{ShapeView}
use Rattle.batch.specs.declared.transfer.Place.{Place}
use Rattle.batch.specs.declared.transfer.Transfer.{Transfer}
use Rattle.batch.specs.Places.{HasPlace, place_index, source_of, destination_of}
use Rattle.batch.specs.Overlap.{transfer_at, source_at, destination_at, IsApart}
use Rattle.module_memory.specs.Store.{Store, HasAllBlocks, IsWhole, block_of}
use Rattle.module_memory.specs.Core.{Core, at_start, step, run, times, IsStepList, IsComplete, FitsIn, IsUnwritten, IsMovedFrom, IsPlacedFrom, setting_of, IsSetting, IsReady, found}
use Rattle.module_memory.specs.Laws.{OnePlaced, OneMoved, OneEnd, EndIsPlaced, EachPrefix}
use Rattle.batch.proofs.Places.{place_index_below}
use Rattle.batch.proofs.HeldSources.{is_written-true, is_written-false}
use Rattle.module_memory.proofs.Held.{found_held, found_now}
use Rattle.module_memory.proofs.Blocks.{same_or_not, block_of-set_same, block_of-set_other, same_store, block_length, all_blocks}

-- nothing has changed that transfers don't write
abbrev pub IsOldElsewhere : Store → List Transfer → Store → Type 0
IsOldElsewhere old ts now = (p : Place) → HasPlace old.shape p → IsUnwritten ts p → block_of now p ≡ block_of old p

-- the premises, of the setting's transfers alone: where transfers find their words by this rule,
-- each finds what its source had in the opening store
pub record Premises (find : Store → Place → List ℕ) (opening old : Store) (ts : List Transfer) : Type 0 where
  pub whole : IsWhole old
  pub places : FitsIn old.shape ts
  pub distinct : (i j : ℕ) → i < length ts → j < length ts → i ≢ j → destination_at ts i ≢ destination_at ts j
  pub wide : (i : ℕ) → i < length ts → length (block_of opening (source_at ts i)) ≡ old.shape.words
  pub finds : (now : Store) → IsOldElsewhere old ts now → (i : ℕ) → i < length ts → find now (source_at ts i) ≡ block_of opening (source_at ts i)

-- one more word of a prefix
pub prefix_step : (a b : List ℕ) (c : ℕ) → length a ≡ length b → c < length a → set (take c a ++ drop c b) c (get_or a c 0) ≡ take (c + 1) a ++ drop (c + 1) b
prefix_step a b c e h =
    ap (λ (x : List ℕ). set (take c a ++ x) c (get_or a c 0)) (drop_more b c 0 (omega arith))
    ∙ set_at (take c a) (get_or b c 0) (drop (c + 1) b) (get_or a c 0) c (length-take-le c a (omega arith))
    ∙ (sym (append_assoc (take c a) (get_or a c 0 ∷ []) (drop (c + 1) b))
    ∙ ap (λ (x : List ℕ). x ++ drop (c + 1) b) (sym (take_more a c 0 h)))

-- transfers that don't overlap write different blocks
pub distinct_from_apart : (ts : List Transfer) → IsApart ts → (i j : ℕ) → i < length ts → j < length ts → i ≢ j → destination_at ts i ≢ destination_at ts j
distinct_from_apart ts h i j hi hj n e =
    elim (cases_lt i j) [
      | inl l ↦ h i j (record { ordered = l; within = hj; one_destination = e })
      | inr l ↦ elim (cases_eq i j) [
        | inl same ↦ n same
        | inr other ↦ h j i (record { ordered = omega arith; within = hi; one_destination = sym e })
      ]
    ]

none_of : (t : Transfer) (ts : List Transfer) (p : Place) → destination_of t ≢ p → ((i : ℕ) → i < length ts → destination_at ts i ≢ p) → (i : ℕ)
    → i < length (t ∷ ts) → destination_of (transfer_at (t ∷ ts) i) ≢ p
none_of t ts p n m zero h = n
none_of t ts p n m (suc i) h = m i (omega arith)

pub find_destination : (ts : List Transfer) (p : Place) → ((i : ℕ) × (i < length ts) × (destination_at ts i ≡ p))
    ⊎ ((i : ℕ) → i < length ts → destination_at ts i ≢ p)
find_destination [] p = inr (λ i h e. absurd (omega arith))
find_destination (t ∷ ts) p =
    elim (same_or_not (destination_of t) p) [
      | inl e ↦ inl (0, omega arith, e)
      | inr n ↦ elim (find_destination ts p) [
        | inl f ↦ inl (suc f.0, omega (arith, f.1), f.2)
        | inr m ↦ inr (none_of t ts p n m)
      ]
    ]

-- the transfer at a place of a setting
pub transfer_at-setting_of : (batch : List Transfer) (numbers : List ℕ) (i : ℕ) → i < length numbers → transfer_at (setting_of batch numbers) i
    ≡ transfer_at batch (slice_index numbers i)
transfer_at-setting_of batch numbers i h = get_or-map (transfer_at batch) numbers i 0 _ h

setting_distinct : (opening s : Store) (batch : List Transfer) (numbers : List ℕ) → IsReady opening s batch numbers → (i j : ℕ)
    → i < length (setting_of batch numbers) → j < length (setting_of batch numbers) → i ≢ j
    → destination_at (setting_of batch numbers) i ≢ destination_at (setting_of batch numbers) j
setting_distinct opening s batch numbers r i j h k n e =
    let short : length (setting_of batch numbers) ≡ length numbers = length-map numbers (transfer_at batch) in
    let hi : i < length numbers = omega arith in
    let hj : j < length numbers = omega arith in
    distinct_from_apart batch r.apart (slice_index numbers i) (slice_index numbers j) (r.setting.known i 0 hi) (r.setting.known j 0 hj)
    (λ f. n (r.setting.distinct i j hi hj f))
    (ap destination_of (sym (transfer_at-setting_of batch numbers i hi)) ∙ e ∙ ap destination_of (transfer_at-setting_of batch numbers j hj))

setting_fits : (opening s : Store) (batch : List Transfer) (numbers : List ℕ) → IsReady opening s batch numbers → FitsIn s.shape (setting_of batch numbers)
setting_fits opening s batch numbers r i h =
    let short : length (setting_of batch numbers) ≡ length numbers = length-map numbers (transfer_at batch) in
    let hi : i < length numbers = omega arith in
    subst (λ (t : Transfer). HasPlace s.shape (source_of t) × HasPlace s.shape (destination_of t))
    (sym (transfer_at-setting_of batch numbers i hi))
    (r.places (slice_index numbers i) (r.setting.known i 0 hi))

-- what the batch doesn't write, a setting of it doesn't
pub unwritten_by_setting : (batch : List Transfer) (numbers : List ℕ) (p : Place) → IsSetting batch numbers → IsUnwritten batch p
    → IsUnwritten (setting_of batch numbers) p
unwritten_by_setting batch numbers p known none k l e =
    let below : k < length numbers = omega (arith, length-map numbers (transfer_at batch)) in
    none (slice_index numbers k) (known.known k 0 below) (ap destination_of (sym (transfer_at-setting_of batch numbers k below)) ∙ e)

-- a source has the words that it had in the opening store, or it is held
pub source_found : (opening s now : Store) (batch : List Transfer) (numbers : List ℕ) → IsReady opening s batch numbers
    → IsOldElsewhere s (setting_of batch numbers) now → (t : ℕ) → t < length batch → found batch opening now (source_at batch t)
    ≡ block_of opening (source_at batch t)
source_found opening s now batch numbers r same t l =
    let p = source_at batch t in
    elim (find_destination batch p) [
      | inl f ↦ found_held batch opening now p (is_written-true batch f.0 p f.1 f.2)
      | inr none ↦ found_now batch opening now p (is_written-false batch p none) ∙ same p (r.places t l).0 (unwritten_by_setting batch numbers p r.setting none)
          ∙ r.agrees t l none
    ]

pub Premises-from_ready : (opening s : Store) (batch : List Transfer) (numbers : List ℕ) → IsReady opening s batch numbers
    → Premises (found batch opening) opening s (setting_of batch numbers)
Premises-from_ready opening s batch numbers r =
    let ts = setting_of batch numbers in
    let fits = setting_fits opening s batch numbers r in
    record {
      whole = r.whole;
      places = fits;
      distinct = setting_distinct opening s batch numbers r;
      wide = λ i h. block_length opening (source_at ts i) r.opening_whole (subst (λ (x : ShapeView). HasPlace x (source_at ts i)) r.same_shape (fits i h).0)
          ∙ ap (λ (x : ShapeView). x.words) (sym r.same_shape);
      finds = λ now same i h.
          let hi : i < length numbers = omega (arith, length-map numbers (transfer_at batch)) in
          subst (λ (t : Transfer). found batch opening now (source_of t) ≡ block_of opening (source_of t)) (sym (transfer_at-setting_of batch numbers i hi))
          (source_found opening s now batch numbers r same (slice_index numbers i) (r.setting.known i 0 hi));
    }

-- only the counts of the list's transfers matter
pub IsMoved-same : (opening old : Store) (ts : List Transfer) (m n : ℕ → ℕ) (new : Store) → ((i : ℕ) → i < length ts → m i ≡ n i)
    → IsMovedFrom opening old ts m new → IsMovedFrom opening old ts n new
IsMoved-same opening old ts m n new e h = record {
  same_shape = h.same_shape;
  same_length = h.same_length;
  destinations = λ i l.
      h.destinations i l ∙ ap (λ (c : ℕ). take c (block_of opening (source_at ts i)) ++ drop c (block_of old (destination_at ts i))) (e i l);
  others = h.others;
}

-- a step keeps the closed form
step_keeps : (find : Store → Place → List ℕ) (opening old : Store) (ts : List Transfer) → Premises find opening old ts → (c : Core) (i : ℕ)
    → IsMovedFrom opening old ts (λ k. slice_index c.moved k) c.store → length c.moved ≡ length ts → i < length ts → slice_index c.moved i < old.shape.words
    → IsMovedFrom opening old ts (λ k. slice_index (step find ts c i).moved k) (step find ts c i).store
step_keeps find opening old ts pr c i h len hi room =
    let t = transfer_at ts i in
    let n = slice_index c.moved i in
    let now = find c.store (source_of t) in
    let a = block_of opening (source_of t) in
    let b = block_of old (destination_of t) in
    let dst : HasPlace old.shape (destination_of t) = (pr.places i hi).1 in
    let fits = λ (p : Place) (hp : HasPlace old.shape p). subst (λ (x : ShapeView). HasPlace x p) (sym h.same_shape) hp in
    let read : now ≡ a = pr.finds c.store h.others i hi in
    let long : place_index c.store.shape (destination_of t) < length c.store.blocks =
    subst (λ (x : ShapeView). place_index x (destination_of t) < length c.store.blocks) (sym h.same_shape)
    (omega (arith, place_index_below old.shape (destination_of t) dst, pr.whole.all_blocks, h.same_length)) in
    record {
      same_shape = h.same_shape;
      same_length = length-set c.store.blocks _ _ ∙ h.same_length;
      destinations = λ j hj. elim (cases_eq j i) [
        | inl e ↦ subst (λ (k : ℕ). block_of (step find ts c i).store (destination_at ts k) ≡ take (slice_index (step find ts c i).moved k)
            (block_of opening (source_at ts k)) ++ drop (slice_index (step find ts c i).moved k) (block_of old (destination_at ts k))) (sym e)
            (block_of-set_same c.store (destination_of t) (set (block_of c.store (destination_of t)) n (get_or now n 0)) long
            ∙ ap₂ (λ (x y : List ℕ). set x n (get_or y n 0)) (h.destinations i hi) read
            ∙ (prefix_step a b n (pr.wide i hi ∙ sym (block_length old (destination_of t) pr.whole dst)) (omega (arith, pr.wide i hi))
            ∙ ap (λ (x : ℕ). take x a ++ drop x b) (sym (get_or-set_same c.moved i (n + 1) 0 (omega arith)))))
        | inr ne ↦
            block_of-set_other c.store (destination_of t) (destination_at ts j) (set (block_of c.store (destination_of t)) n (get_or now n 0))
            (fits (destination_of t) dst) (fits (destination_at ts j) (pr.places j hj).1) (pr.distinct j i hj hi ne)
            ∙ h.destinations j hj
            ∙ ap (λ (x : ℕ). take x (block_of opening (source_at ts j)) ++ drop x (block_of old (destination_at ts j)))
            (sym (get_or-set_other c.moved i j (n + 1) 0 ne))
      ];
      others = λ p hp none.
          block_of-set_other c.store (destination_of t) p (set (block_of c.store (destination_of t)) n (get_or now n 0)) (fits (destination_of t) dst)
          (fits p hp) (λ e. none i hi (sym e))
          ∙ h.others p hp none;
    }

-- the count of a transfer, a step on
pub times_same : (i : ℕ) (steps : List ℕ) → times i (i ∷ steps) ≡ times i steps + 1
times_same i steps =
    omega (arith, sum_by-cons (λ (k : ℕ). cond (k == i) 1 0) i steps, ap (λ (b : Bool). cond {A = ℕ} b 1 0) (eq-eqb i i refl))

pub times_other : (i k : ℕ) (steps : List ℕ) → (k ≡ i → ⊥) → times k (i ∷ steps) ≡ times k steps
times_other i k steps n =
    omega (arith, sum_by-cons (λ (j : ℕ). cond (j == k) 1 0) i steps, ap (λ (b : Bool). cond {A = ℕ} b 1 0) (ne_eqb i k (λ e. n (sym e))))

moved_step : (moved : List ℕ) (i k : ℕ) (steps : List ℕ) → i < length moved → get_or (set moved i (get_or moved i 0 + 1)) k 0 + times k steps
    ≡ get_or moved k 0 + times k (i ∷ steps)
moved_step moved i k steps h =
    elim (cases_eq k i) [
      | inl e ↦ subst (λ (x : ℕ). get_or (set moved i (get_or moved i 0 + 1)) x 0 + times x steps ≡ get_or moved x 0 + times x (i ∷ steps)) (sym e)
          (omega (arith, get_or-set_same moved i (get_or moved i 0 + 1) 0 h, times_same i steps))
      | inr n ↦ omega (arith, get_or-set_other moved i k (get_or moved i 0 + 1) 0 n, times_other i k steps n)
    ]

-- so does a step list
run_keeps : (find : Store → Place → List ℕ) (opening old : Store) (ts : List Transfer) → Premises find opening old ts → (c : Core) (steps : List ℕ)
    → IsMovedFrom opening old ts (λ k. slice_index c.moved k) c.store → length c.moved ≡ length ts → All (λ i. i < length ts) steps
    → ((k : ℕ) → k < length ts → slice_index c.moved k + times k steps ≤ old.shape.words)
    → IsMovedFrom opening old ts (λ k. slice_index c.moved k + times k steps) (run find ts c steps).store
run_keeps find opening old ts pr c [] h len known room = IsMoved-same opening old ts _ _ c.store (λ i l. omega arith) h
run_keeps find opening old ts pr c (i ∷ steps) h len known room =
    let hi : i < length ts = known 0 0 (omega arith) in
    let next = step find ts c i in
    let same : (k : ℕ) → slice_index next.moved k + times k steps ≡ slice_index c.moved k + times k (i ∷ steps) =
    λ k. moved_step c.moved i k steps (omega arith) in
    let now : slice_index c.moved i < old.shape.words = omega (arith, room i hi, times_same i steps) in
    IsMoved-same opening old ts _ _ (run find ts next steps).store (λ k l. same k)
    (run_keeps find opening old ts pr next steps (step_keeps find opening old ts pr c i h len hi now) (length-set c.moved i _ ∙ len)
    (λ k d l. known (suc k) d (omega arith)) (λ k l. omega (arith, same k, room k l)))

none_moved : (ts : List Transfer) (k : ℕ) → ◌≡◌ {A = ℕ} (get_or (map (λ (t : Transfer). 0) ts) k 0) 0
none_moved [] k = refl
none_moved (t ∷ ts) zero = refl
none_moved (t ∷ ts) (suc k) = none_moved ts k

-- a machine at its start has moved nothing
IsMoved-at_start : (opening old : Store) (ts : List Transfer) → IsMovedFrom opening old ts (λ k. slice_index (at_start old ts).moved k) old
IsMoved-at_start opening old ts = IsMoved-same opening old ts (λ _. 0) _ old
    (λ i h. sym (none_moved ts i))
    (record { same_shape = refl; same_length = refl; destinations = λ i h. refl; others = λ p hp none. refl })

-- after any step list
run_moves : (find : Store → Place → List ℕ) (opening old : Store) (ts : List Transfer) → Premises find opening old ts → (steps : List ℕ)
    → IsStepList ts old.shape.words steps → IsMovedFrom opening old ts (λ k. times k steps) (run find ts (at_start old ts) steps).store
run_moves find opening old ts pr steps h =
    IsMoved-same opening old ts _ _ (run find ts (at_start old ts) steps).store (λ k l. ap (λ (x : ℕ). x + times k steps) (none_moved ts k) ∙ omega arith)
    (run_keeps find opening old ts pr (at_start old ts) steps (IsMoved-at_start opening old ts) (length-map ts (λ _. 0)) h.known
    (λ k l. omega (arith, none_moved ts k, h.bounded k l)))

-- two stores are one where the destinations of transfers are the same in both, and all else is
same_written : (old a b : Store) (ts : List Transfer) → HasAllBlocks old → a.shape ≡ old.shape → b.shape ≡ old.shape → length a.blocks ≡ length old.blocks
    → length b.blocks ≡ length old.blocks
    → ((i : ℕ) → i < length ts → block_of a (destination_at ts i) ≡ block_of b (destination_at ts i))
    → ((p : Place) → HasPlace old.shape p → IsUnwritten ts p → block_of a p ≡ block_of b p) → a ≡ b
same_written old a b ts all ea eb la lb written others =
    same_store old a b all ea eb la lb (λ p hp. elim (find_destination ts p) [
      | inl f ↦ subst (λ (q : Place). block_of a q ≡ block_of b q) f.2 (written f.0 f.1)
      | inr none ↦ others p hp none
    ])

-- one store has given counts
pub one_moved_from : (opening old a b : Store) (ts : List Transfer) (moved : ℕ → ℕ) → HasAllBlocks old → IsMovedFrom opening old ts moved a
    → IsMovedFrom opening old ts moved b → a ≡ b
one_moved_from opening old a b ts moved all ha hb =
    same_written old a b ts all ha.same_shape hb.same_shape ha.same_length hb.same_length
    (λ i l. ha.destinations i l ∙ sym (hb.destinations i l)) (λ p hp none. ha.others p hp none ∙ sym (hb.others p hp none))

pub one_moved : OneMoved
one_moved old a b ts moved all ha hb = one_moved_from old old a b ts moved all ha hb

pub one_placed : OnePlaced
one_placed old a b ts all ha hb =
    same_written old a b ts all ha.same_shape hb.same_shape ha.same_length hb.same_length
    (λ i l. ha.destinations i l ∙ sym (hb.destinations i l)) (λ p hp none. ha.others p hp none ∙ sym (hb.others p hp none))

-- a complete step list is a step list
IsStepList-from_complete : (ts : List Transfer) (w : ℕ) (steps : List ℕ) → IsComplete ts w steps → IsStepList ts w steps
IsStepList-from_complete ts w steps h = record { known = h.known; bounded = λ i l. omega (arith, h.complete i l) }

pub complete_moves : (find : Store → Place → List ℕ) (opening old : Store) (ts : List Transfer) → Premises find opening old ts → (steps : List ℕ)
    → IsComplete ts old.shape.words steps → IsMovedFrom opening old ts (λ k. old.shape.words) (run find ts (at_start old ts) steps).store
complete_moves find opening old ts pr steps h =
    IsMoved-same opening old ts _ _ (run find ts (at_start old ts) steps).store h.complete
    (run_moves find opening old ts pr steps (IsStepList-from_complete ts old.shape.words steps h))

-- all words moved is all blocks placed
pub IsPlaced-from_moved : (find : Store → Place → List ℕ) (opening old : Store) (ts : List Transfer) → Premises find opening old ts → (new : Store)
    → IsMovedFrom opening old ts (λ k. old.shape.words) new → IsPlacedFrom opening old ts new
IsPlaced-from_moved find opening old ts pr new h = record {
  same_shape = h.same_shape;
  same_length = h.same_length;
  destinations = λ i l.
      let t = transfer_at ts i in
      let w = old.shape.words in
      h.destinations i l
      ∙ ap₂ (λ (x y : List ℕ). x ++ y) (take_all w (block_of opening (source_of t)) (omega (arith, pr.wide i l)))
      (drop_all w (block_of old (destination_of t)) (omega (arith, block_length old (destination_of t) pr.whole (pr.places i l).1)))
      ∙ append-nil (block_of opening (source_of t));
  others = h.others;
}

pub one_end : OneEnd
one_end opening s batch numbers r a b ha hb =
    let pr = Premises-from_ready opening s batch numbers r in
    let ts = setting_of batch numbers in
    one_moved_from opening s (run (found batch opening) ts (at_start s ts) a).store (run (found batch opening) ts (at_start s ts) b).store ts _
    (all_blocks s pr.whole) (complete_moves (found batch opening) opening s ts pr a ha) (complete_moves (found batch opening) opening s ts pr b hb)

pub end_is_placed : EndIsPlaced
end_is_placed opening s batch numbers r steps h =
    let pr = Premises-from_ready opening s batch numbers r in
    let ts = setting_of batch numbers in
    IsPlaced-from_moved (found batch opening) opening s ts pr (run (found batch opening) ts (at_start s ts) steps).store
    (complete_moves (found batch opening) opening s ts pr steps h)

pub each_prefix : EachPrefix
each_prefix opening s batch numbers r steps h =
    run_moves (found batch opening) opening s (setting_of batch numbers) (Premises-from_ready opening s batch numbers r) steps h
