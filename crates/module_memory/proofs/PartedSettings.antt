-- A rack that is parted at the destinations of settings.
use Rattle.std.proofs.Common.{[], ◌∷◌, ℕ, ◌≡◌, ◌≢◌, ◌<◌, ◌+◌, List, ◌++◌, length, get_or, refl, sym, ap, ◌∙◌, subst, arith, length-append, inl, inr}
use Rattle.std.proofs.lemmas.List.{get_or_default, get_or-map, length-map, get_or_append_left, get_or-append_right}
use Rattle.batch.specs.ShapeView.{ShapeView}
use Rattle.batch.specs.declared.transfer.Place.{Place}
use Rattle.batch.specs.declared.transfer.Transfer.{Transfer}
use Rattle.batch.specs.Places.{HasPlace, place_index, destination_of}
use Rattle.batch.specs.Overlap.{transfer_at, source_at, destination_at}
use Rattle.module_memory.specs.Store.{Store, block_of}
use Rattle.module_memory.specs.Core.{IsReady, IsUnwritten}
use Rattle.module_memory.specs.Lending.{place_in, bay_in, bays_of, AreLendable, copy_of, copy_in, or_else}
use Rattle.module_memory.specs.Bays.{destinations_of}
use Rattle.module_memory.specs.Laws.{SettingsHaveBays, SourcesAreFound}
use Rattle.module_memory.proofs.CoreLaw.{distinct_from_apart, transfer_at-setting_of}
use Rattle.module_memory.proofs.PartLaws.{IsOff, block_of-without, bay_at, AreLent-parted, shape-without, places_of-bays_of}
use Rattle.batch.proofs.Places.{same_place_from_index}
use Rattle.module_memory.proofs.Blocks.{block_length}
use Rattle.batch.proofs.HeldSources.{is_written-true}
use Rattle.module_memory.proofs.Copies.{stands_or_not}
use Rattle.module_memory.proofs.BayLaws.{place_in-places_of}

-- the destination of the transfer at a position
place_in-destinations_of : (batch : List Transfer) (numbers : List ℕ) (k : ℕ) → k < length numbers → place_in (destinations_of batch numbers) k
    ≡ destination_at batch (get_or numbers k 0)
place_in-destinations_of batch numbers k l = get_or-map (destination_at batch) numbers k 0 _ l

length-destinations_of : (batch : List Transfer) (numbers : List ℕ) → length (destinations_of batch numbers) ≡ length numbers
length-destinations_of batch numbers = length-map numbers (destination_at batch)

-- transfers that don't overlap write different blocks
pub destinations_lendable : (s : Store) (batch : List Transfer) (numbers : List ℕ) → IsReady s s batch numbers
    → AreLendable s.shape (destinations_of batch numbers)
destinations_lendable s batch numbers r = record {
  exist = λ k l.
      let below : k < length numbers = omega (arith, length-destinations_of batch numbers) in
      subst (HasPlace s.shape) (sym (place_in-destinations_of batch numbers k below)) (r.places (get_or numbers k 0) (r.setting.known k 0 below)).1;
  distinct = λ j k l m e.
      let hk : k < length numbers = omega (arith, length-destinations_of batch numbers) in
      let hj : j < length numbers = omega arith in
      let differ : get_or numbers j 0 ≢ get_or numbers k 0 = λ f. (let same : j ≡ k = r.setting.distinct j k hj hk f in omega arith) in
      distinct_from_apart batch r.apart (get_or numbers j 0) (get_or numbers k 0) (r.setting.known j 0 hj) (r.setting.known k 0 hk)
      differ (sym (place_in-destinations_of batch numbers j hj) ∙ e ∙ place_in-destinations_of batch numbers k hk);
}

-- a number in the middle of a list
in_middle : (before numbers after : List ℕ) (i d : ℕ) → i < length numbers → get_or (before ++ numbers ++ after) (length before + i) d ≡ get_or numbers i d
in_middle before numbers after i d l =
    get_or_append_left (before ++ numbers) after d (length before + i) (omega (arith, length-append before numbers))
    ∙ get_or-append_right before numbers (length before) (length before + i) d refl (omega arith)
    ∙ ap (λ (x : ℕ). get_or numbers x d) (omega arith)

-- the place of the bay at a position
place-bays_of : (s : Store) (batch : List Transfer) (numbers : List ℕ) (k : ℕ) → k < length numbers
    → (bay_in (bays_of s (destinations_of batch numbers)) k).place ≡ destination_at batch (get_or numbers k 0)
place-bays_of s batch numbers k l =
    let places = destinations_of batch numbers in
    sym (place_in-places_of (bays_of s places) k (omega (arith, length-destinations_of batch numbers, length-map places (λ (p : Place). bay_at s p))))
    ∙ ap (λ (ps : List Place). place_in ps k) (places_of-bays_of s places)
    ∙ place_in-destinations_of batch numbers k l

pub settings_have_bays : SettingsHaveBays
settings_have_bays s batch before numbers after r =
    let all = before ++ numbers ++ after in
    let places = destinations_of batch all in
    let lendable = destinations_lendable s batch all r in
    let short = length-map numbers (transfer_at batch) in
    let sums : length all ≡ length before + length numbers + length after =
    omega (arith, length-append (before ++ numbers) after, length-append before numbers) in
    let long : length (bays_of s places) ≡ length all = omega (arith, length-destinations_of batch all, length-map places (λ (p : Place). bay_at s p)) in
    let known : (i : ℕ) → i < length numbers → get_or numbers i 0 < length batch =
    λ i l. subst (λ (t : ℕ). t < length batch) (in_middle before numbers after i 0 l) (r.setting.known (length before + i) 0 (omega arith)) in (
      lendable,
      record {
        lent = AreLent-parted s places r.whole lendable;
        within = omega arith;
        destinations = λ i l.
            let below : i < length numbers = omega arith in
            place-bays_of s batch all (length before + i) (omega arith)
            ∙ ap (destination_at batch) (in_middle before numbers after i 0 below)
            ∙ ap destination_of (sym (transfer_at-setting_of batch numbers i below));
      },
    )

-- a copy has words, where the store has
pub copy_first : (xs ys zs : List ℕ) → xs ≡ zs → 0 < length zs → or_else xs ys ≡ zs
copy_first [] ys zs e l = absurd (omega (arith, ap (length {A = ℕ}) e))
copy_first (x ∷ xs) ys zs e l = e

pub else_block : (xs ys : List ℕ) → xs ≡ [] → or_else xs ys ≡ ys
else_block xs ys e = ap (λ (zs : List ℕ). or_else zs ys) e

-- a block that the batch doesn't write isn't lent
unlent : (s : Store) (batch : List Transfer) (numbers : List ℕ) (p : Place) → IsReady s s batch numbers → HasPlace s.shape p → IsUnwritten batch p
    → IsOff s.shape (destinations_of batch numbers) p
unlent s batch numbers p r hp none = λ k l e.
    let below : k < length numbers = omega (arith, length-destinations_of batch numbers) in
    let t = get_or numbers k 0 in
    let known : t < length batch = r.setting.known k 0 below in
    none t known (same_place_from_index s.shape (destination_at batch t) p (r.places t known).1 hp
    (ap (place_index s.shape) (sym (place_in-destinations_of batch numbers k below)) ∙ e))

pub sources_are_found : SourcesAreFound
sources_are_found s batch numbers held rest r store copies has t l =
    let p = source_at batch t in
    let hp : HasPlace s.shape p = (r.places t l).0 in
    let wide : length (block_of s p) ≡ s.shape.words = block_length s p r.whole hp in
    let here : copy_of rest p ≡ copy_in s.shape rest.held p = ap (λ (x : ShapeView). copy_in x rest.held p)
    (ap (λ (x : Store). x.shape) store ∙ shape-without s (destinations_of batch numbers)) in
    elim (stands_or_not held p) [
      | inl f ↦ copy_first (copy_of rest p) (block_of rest.store p) (block_of s p) (here ∙ subst (λ (q : Place). copy_in s.shape rest.held q ≡ block_of s q) f.2
          (copies.copied f.0 f.1)) (omega (arith, wide, r.whole.within.some_word))
      | inr none ↦ else_block (copy_of rest p) (block_of rest.store p) (here ∙ copies.others p hp none)
          ∙ ap (λ (x : Store). block_of x p) store
          ∙ block_of-without s (destinations_of batch numbers) p
          (unlent s batch numbers p r hp (λ i m e. let held_it = (has.each p).1 ((t, l, refl), is_written-true batch i p m e) in none held_it.0 held_it.1
          (get_or_default held held_it.0 _ _ held_it.1 ∙ held_it.2)))
    ]
