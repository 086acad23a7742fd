-- A rack of which blocks are lent: its words are those of the bays and of the rest.
use Rattle.std.proofs.Common.{ℕ, zero, suc, ◌≡◌, ◌≢◌, ◌≤◌, ◌<◌, ◌+◌, ◌-◌, ◌*◌, List, [], ◌∷◌, ◌++◌, length, take, drop, get_or, refl, sym, ap, ap₂, ◌∙◌, subst, arith, length-set, ◌⊎◌, inl, inr}
use Rattle.std.proofs.lemmas.List.{same_lists, get_or-map, length-map, get_or_default}
use Rattle.std.proofs.lemmas.Bool.{cases_eq, cases_lt}
use Rattle.batch.specs.ShapeView.{ShapeView}
use Rattle.batch.specs.declared.transfer.Place.{Place}
use Rattle.batch.specs.declared.transfer.Transfer.{Transfer}
use Rattle.batch.specs.Places.{HasPlace, place_index}
use Rattle.batch.specs.Overlap.{source_at, destination_at}
use Rattle.module_memory.specs.Store.{Store, block_of, set_block}
use Rattle.module_memory.specs.Core.{IsMovedFrom}
use Rattle.module_memory.specs.Lending.{BlockAt, place_in, bay_in, places_of, AreLendable, store_rejoined}
use Rattle.module_memory.specs.Bays.{AreLent, AreFound, AreSamePlaces}
use Rattle.module_memory.specs.Laws.{BaysHoldTheCounts, BaysStayLent, BaysStayWhole, BaysAreWide, LentBlockIsGone, LentBlockIsItsBay, OtherBlockIsTheRest, SetIsOneWord}
use Rattle.batch.specs.ShapeView.{IsShape}
use Rattle.batch.proofs.Places.{place_at, place_index-place_at, HasPlace-place_at}
use Rattle.module_memory.proofs.Blocks.{block_at, block_length}
use Rattle.batch.proofs.Places.{place_index_below, same_place_from_index}
use Rattle.module_memory.proofs.PartLaws.{IsOnce, IsOff, IsOnce-from_lendable, block_of-without_lent, block_of-joined_off, block_of-joined_bay, joined-set_word}

pub shape-joined : (s : Store) (bays : List BlockAt) → (store_rejoined s bays).shape ≡ s.shape
shape-joined s [] = refl
shape-joined s (b ∷ bays) = shape-joined (set_block s b.place b.words) bays

pub length-joined : (s : Store) (bays : List BlockAt) → length (store_rejoined s bays).blocks ≡ length s.blocks
length-joined s [] = refl
length-joined s (b ∷ bays) = length-joined (set_block s b.place b.words) bays ∙ length-set s.blocks _ _

off_more : (s : ShapeView) (b : BlockAt) (bays : List BlockAt) (p : Place) → (place_index s b.place ≡ place_index s p → ⊥) → IsOff s (places_of bays) p
    → (k : ℕ) → k < length (b.place ∷ places_of bays) → place_index s (get_or (b.place ∷ places_of bays) k (record { «module» = 0; block = 0 })) ≢ place_index s
    p
off_more s b bays p n o zero l = n
off_more s b bays p n o (suc k) l = o k (omega arith)

-- a bay at this index, or none
find_bay : (s : ShapeView) (bays : List BlockAt) (p : Place) → ((k : ℕ) × (k < length bays) × (place_index s (bay_in bays k).place ≡ place_index s p))
    ⊎ IsOff s (places_of bays) p
find_bay s [] p = inr (λ k l. absurd (omega arith))
find_bay s (b ∷ bays) p =
    elim (cases_eq (place_index s b.place) (place_index s p)) [
      | inl e ↦ inl (0, omega arith, e)
      | inr n ↦ elim (find_bay s bays p) [
        | inl f ↦ inl (suc f.0, omega (arith, f.1), f.2)
        | inr o ↦ inr (off_more s b bays p n o)
      ]
    ]

-- what is known of bays in which a setting's words have moved
record Moves (find : Place → List ℕ) (opening rest : Store) (bays new : List BlockAt) (first : ℕ) (ts : List Transfer) (moved : ℕ → ℕ) : Type 0 where
  once : IsOnce rest.shape (places_of bays)
  exist : (k : ℕ) → k < length bays → HasPlace rest.shape (bay_in bays k).place
  all_blocks : length rest.blocks ≡ rest.shape.modules * rest.shape.blocks
  same_length : length new ≡ length bays
  same_places : (k : ℕ) → k < length bays → (bay_in new k).place ≡ (bay_in bays k).place
  within : first + length ts ≤ length bays
  destinations : (i : ℕ) → i < length ts → destination_at ts i ≡ (bay_in bays (first + i)).place
  found : AreFound find opening ts
  filled : (i : ℕ) → i < length ts → (bay_in new (first + i)).words ≡ take (moved i) (find (source_at ts i)) ++ drop (moved i) (bay_in bays (first + i)).words
  others : (k : ℕ) → k < length bays → (k < first) ⊎ (first + length ts ≤ k) → (bay_in new k).words ≡ (bay_in bays k).words

-- bays that stand where they stood have the same places
places_same : (bays new : List BlockAt) → length new ≡ length bays → ((k : ℕ) → k < length bays → (bay_in new k).place ≡ (bay_in bays k).place) → places_of new
    ≡ places_of bays
places_same bays new e h =
    same_lists (places_of new) (places_of bays) (omega (arith, length-map new (λ (b : BlockAt). b.place), length-map bays (λ (b : BlockAt). b.place)))
    (λ k d l.
    let below : k < length bays = omega (arith, length-map new (λ (b : BlockAt). b.place)) in
    get_or-map (λ (b : BlockAt). b.place) new k _ d (omega arith) ∙ h k below ∙ sym (get_or-map (λ (b : BlockAt). b.place) bays k _ d below))

-- the block of a bay, in the store of the rest and the bays
at_bay : (rest : Store) (bays : List BlockAt) (k : ℕ) → IsOnce rest.shape (places_of bays) → length rest.blocks ≡ rest.shape.modules * rest.shape.blocks
    → k < length bays → HasPlace rest.shape (bay_in bays k).place → block_of (store_rejoined rest bays) (bay_in bays k).place ≡ (bay_in bays k).words
at_bay rest bays k once all l hp = block_of-joined_bay rest bays k once l (omega (arith, place_index_below rest.shape (bay_in bays k).place hp))

-- a block that is no destination of the setting
other_block : (find : Place → List ℕ) (opening rest : Store) (bays new : List BlockAt) (first : ℕ) (ts : List Transfer) (moved : ℕ → ℕ)
    → Moves find opening rest bays new first ts moved → (p : Place) → HasPlace (store_rejoined rest bays).shape p
    → ((i : ℕ) → i < length ts → destination_at ts i ≢ p)
    → ((k : ℕ) × (k < length bays) × (place_index rest.shape (bay_in bays k).place ≡ place_index rest.shape p)) ⊎ IsOff rest.shape (places_of bays) p
    → ((k : ℕ) → k < length bays → block_of (store_rejoined rest bays) (bay_in bays k).place ≡ (bay_in bays k).words)
    → ((k : ℕ) → k < length bays → block_of (store_rejoined rest new) (bay_in bays k).place ≡ (bay_in new k).words)
    → places_of new ≡ places_of bays
    → block_of (store_rejoined rest new) p ≡ block_of (store_rejoined rest bays) p
other_block find opening rest bays new first ts moved h p hp none (inr off) old_bay new_bay places =
    block_of-joined_off rest new p (subst (λ (ps : List Place). IsOff rest.shape ps p) (sym places) off) ∙ sym (block_of-joined_off rest bays p off)
other_block find opening rest bays new first ts moved h p hp none (inl f) old_bay new_bay places =
    let k = f.0 in
    let at : (bay_in bays k).place ≡ p = same_place_from_index rest.shape (bay_in bays k).place p (h.exist k f.1)
    (subst (λ (x : ShapeView). HasPlace x p) (shape-joined rest bays) hp) f.2 in
    let out : (k < first) ⊎ (first + length ts ≤ k) = elim (cases_lt k first) [
      | inl l ↦ inl l
      | inr l ↦ elim (cases_lt k (first + length ts)) [
        | inl m ↦ absurd
            (none (k - first) (omega arith) (h.destinations (k - first) (omega arith) ∙ (ap (λ (n : ℕ). (bay_in bays n).place) (omega arith) ∙ at)))
        | inr m ↦ inr m
      ]
    ] in
    subst (λ (q : Place). block_of (store_rejoined rest new) q ≡ block_of (store_rejoined rest bays) q)
    at (new_bay k f.1 ∙ h.others k f.1 out ∙ sym (old_bay k f.1))

setting_moved : (find : Place → List ℕ) (opening rest : Store) (bays new : List BlockAt) (first : ℕ) (ts : List Transfer) (moved : ℕ → ℕ)
    → Moves find opening rest bays new first ts moved → IsMovedFrom opening (store_rejoined rest bays) ts moved (store_rejoined rest new)
setting_moved find opening rest bays new first ts moved h =
    let places = places_same bays new h.same_length h.same_places in
    let once_new : IsOnce rest.shape (places_of new) = subst (IsOnce rest.shape) (sym places) h.once in
    let old_bay = λ (k : ℕ) (l : k < length bays). at_bay rest bays k h.once h.all_blocks l (h.exist k l) in
    let new_bay = λ (k : ℕ) (l : k < length bays). ap (block_of (store_rejoined rest new)) (sym (h.same_places k l)) ∙ at_bay rest new k once_new h.all_blocks
    (omega (arith, h.same_length)) (subst (HasPlace rest.shape) (sym (h.same_places k l)) (h.exist k l)) in
    record {
      same_shape = shape-joined rest new ∙ sym (shape-joined rest bays);
      same_length = length-joined rest new ∙ sym (length-joined rest bays);
      destinations = λ i l.
          let k = first + i in
          let below : k < length bays = omega (arith, h.within) in
          let d = h.destinations i l in
          let src = h.found i l in
          ap (block_of (store_rejoined rest new)) d ∙ new_bay k below ∙ h.filled i l
          ∙ ap₂ (λ (x y : List ℕ). take (moved i) x ++ drop (moved i) y) src (sym (old_bay k below) ∙ ap (block_of (store_rejoined rest bays)) (sym d));
      others = λ p hp none. other_block find opening rest bays new first ts moved h p hp none (find_bay rest.shape bays p) old_bay new_bay places;
    }

-- the place of a bay
pub place_in-places_of : (bays : List BlockAt) (k : ℕ) → k < length bays → place_in (places_of bays) k ≡ (bay_in bays k).place
place_in-places_of bays k l = get_or-map (λ (b : BlockAt). b.place) bays k _ _ l

length-places_of : (bays : List BlockAt) → length (places_of bays) ≡ length bays
length-places_of bays = length-map bays (λ (b : BlockAt). b.place)

-- the places of bays that are lent
once_of : (rest : Store) (bays : List BlockAt) → AreLent rest bays → IsOnce rest.shape (places_of bays)
once_of rest bays h = IsOnce-from_lendable rest.shape (places_of bays) h.lendable

exist_of : (rest : Store) (bays : List BlockAt) → AreLent rest bays → (k : ℕ) → k < length bays → HasPlace rest.shape (bay_in bays k).place
exist_of rest bays h k l = subst (HasPlace rest.shape) (place_in-places_of bays k l) (h.lendable.exist k (omega (arith, length-places_of bays)))

off_of : (rest : Store) (bays : List BlockAt) (p : Place) → AreLent rest bays → HasPlace rest.shape p → ((k : ℕ) → k < length bays → (bay_in bays k).place ≢ p)
    → IsOff rest.shape (places_of bays) p
off_of rest bays p h hp other = λ k l e.
    let below : k < length bays = omega (arith, length-places_of bays) in
    let at = place_in-places_of bays k below in
    other k below (same_place_from_index rest.shape (bay_in bays k).place p (exist_of rest bays h k below) hp (ap (place_index rest.shape) (sym at) ∙ e))

room_of : (rest : Store) (bays : List BlockAt) → AreLent rest bays → (k : ℕ) → k < length bays → place_index rest.shape (bay_in bays k).place < length
    rest.blocks
room_of rest bays h k l = omega (arith, h.all_blocks, place_index_below rest.shape (bay_in bays k).place (exist_of rest bays h k l))

pub lent_block : LentBlockIsItsBay
lent_block rest bays k h l = block_of-joined_bay rest bays k (once_of rest bays h) l (room_of rest bays h k l)

pub other_rest : OtherBlockIsTheRest
other_rest rest bays p h hp other = block_of-joined_off rest bays p (off_of rest bays p h hp other)

pub lent_block_gone : LentBlockIsGone
lent_block_gone s places i h lendable l =
    block_of-without_lent s places i (IsOnce-from_lendable s.shape places lendable) l
    (omega (arith, h.all_blocks, place_index_below s.shape (place_in places i) (lendable.exist i l)))

pub set_one_word : SetIsOneWord
set_one_word rest bays k j w h l = joined-set_word rest bays k j w (once_of rest bays h) l (room_of rest bays h k l)

pub hold_the_counts : BaysHoldTheCounts
hold_the_counts find opening rest old new first ts moved h found f =
    setting_moved find opening rest old new first ts moved (record {
      once = once_of rest old h.lent;
      exist = exist_of rest old h.lent;
      all_blocks = h.lent.all_blocks;
      same_length = f.places.same_length;
      same_places = f.places.same_places;
      within = h.within;
      destinations = λ i l. sym (h.destinations i l);
      found = found;
      filled = f.filled;
      others = f.others;
    })

lent_still : (rest : Store) (old new : List BlockAt) → AreLent rest old → AreSamePlaces old new → AreLent rest new
lent_still rest old new h s = record {
  lendable = subst (AreLendable rest.shape) (sym (places_same old new s.same_length s.same_places)) h.lendable;
  all_blocks = h.all_blocks;
}

pub stay_lent : BaysStayLent
stay_lent rest old new first ts h s = record {
  lent = lent_still rest old new h.lent s;
  within = omega (arith, h.within, s.same_length);
  destinations = λ i l. s.same_places (first + i) (omega (arith, h.within)) ∙ h.destinations i l;
}

-- the words of a block, in a store of bays and in another
same_width : (rest : Store) (old new : List BlockAt) → AreLent rest old → AreSamePlaces old new
    → ((k : ℕ) → k < length old → length (bay_in new k).words ≡ length (bay_in old k).words) → (p : Place) → HasPlace rest.shape p
    → length (block_of (store_rejoined rest new) p) ≡ length (block_of (store_rejoined rest old) p)
same_width rest old new h s w p hp =
    let places = places_same old new s.same_length s.same_places in
    elim (find_bay rest.shape old p) [
      | inl f ↦
          let k = f.0 in
          let at : (bay_in old k).place ≡ p = same_place_from_index rest.shape (bay_in old k).place p (exist_of rest old h k f.1) hp f.2 in
          let before : block_of (store_rejoined rest old) p ≡ (bay_in old k).words = ap (block_of (store_rejoined rest old)) (sym at)
          ∙ lent_block rest old k h f.1 in
          let after : block_of (store_rejoined rest new) p ≡ (bay_in new k).words = ap (block_of (store_rejoined rest new)) (sym at ∙ sym (s.same_places k f.1))
          ∙ lent_block rest new k (lent_still rest old new h s) (omega (arith, f.1, s.same_length)) in
          ap (λ (x : List ℕ). length x) after ∙ w k f.1 ∙ ap (λ (x : List ℕ). length x) (sym before)
      | inr off ↦ ap (λ (x : List ℕ). length x) (block_of-joined_off rest new p (subst (λ (ps : List Place). IsOff rest.shape ps p) (sym places) off)
          ∙ sym (block_of-joined_off rest old p off))
    ]

pub stay_whole : BaysStayWhole
stay_whole rest old new h s w r = record {
  exist = λ k d l.
      let below : k < length old = omega (arith, s.same_length) in
      let found : get_or new k d ≡ bay_in new k = get_or_default new k d _ l in
      subst (λ (b : BlockAt). HasPlace rest.shape b.place) (sym found)
      (subst (HasPlace rest.shape) (sym (s.same_places k below)) (exist_of rest old h k below));
  whole = record {
    within = subst IsShape (shape-joined rest old ∙ sym (shape-joined rest new)) r.whole.within;
    all_blocks = length-joined rest new ∙ (h.all_blocks ∙ ap (λ (x : ShapeView). x.modules * x.blocks) (sym (shape-joined rest new)));
    all_words = λ k l.
        let below : k < rest.shape.modules * rest.shape.blocks = omega (arith, length-joined rest new, h.all_blocks) in
        let p = place_at rest.shape k in
        let hp : HasPlace rest.shape p = HasPlace-place_at rest.shape k (subst IsShape (shape-joined rest old) r.whole.within) below in
        let at = place_index-place_at rest.shape k in
        ap (λ (x : List ℕ). length x) (sym (block_at (store_rejoined rest new) rest.shape p k (shape-joined rest new) at))
        ∙ same_width rest old new h s w p hp
        ∙ ap (λ (x : List ℕ). length x) (block_at (store_rejoined rest old) rest.shape p k (shape-joined rest old) at)
        ∙ r.whole.all_words k (omega (arith, length-joined rest old, length-joined rest new))
        ∙ ap (λ (x : ShapeView). x.words) (shape-joined rest old ∙ sym (shape-joined rest new));
  };
}

pub bays_are_wide : BaysAreWide
bays_are_wide rest bays first ts i h r l =
    let k = first + i in
    let below : k < length bays = omega (arith, h.within) in
    let q = (bay_in bays k).place in
    let whole = store_rejoined rest bays in
    let wide = λ (x : Place) (hp : HasPlace rest.shape x).
    block_length whole x r.whole (subst (λ (e : ShapeView). HasPlace e x) (sym (shape-joined rest bays)) hp)
    ∙ ap (λ (e : ShapeView). e.words) (shape-joined rest bays) in
    ap (λ (x : List ℕ). length x) (sym (lent_block rest bays k h.lent below)) ∙ wide q (exist_of rest bays h.lent k below)
