-- A rack that is parted, and rejoined.
use Rattle.std.proofs.Common.{ℕ, ◌*◌, zero, suc, ◌≡◌, ◌≢◌, ◌<◌, List, [], ◌∷◌, ◌++◌, length, take, get_or, set, refl, sym, ap, ◌∙◌, subst, subst₂, arith, length-set, get_or-set_same, get_or-set_other}
use Rattle.std.proofs.Common.{set-set}
use Rattle.std.proofs.lemmas.List.{set_comm, set-get_or, get_or-take, length-take-le, length-map, get_or-map}
use Rattle.batch.specs.ShapeView.{ShapeView}
use Rattle.batch.specs.declared.transfer.Place.{Place}
use Rattle.batch.specs.Places.{HasPlace, place_index}
use Rattle.module_memory.specs.Store.{Store, IsWhole, block_of, set_block, set_word}
use Rattle.module_memory.specs.Lending.{BlockAt, place_in, bay_in, places_of, AreLendable, bays_of, without, store_rejoined, Rejoins}
use Rattle.batch.proofs.Places.{same_place_from_index}
use Rattle.module_memory.specs.Bays.{AreLent}
use Rattle.module_memory.proofs.Blocks.{store_from_parts}

-- a place that is none of these, by the index
abbrev pub IsOff : ShapeView → List Place → Place → Type 0
IsOff s ps p = (k : ℕ) → k < length ps → place_index s (place_in ps k) ≢ place_index s p

-- places of which none comes again
abbrev pub IsOnce : ShapeView → List Place → Type 0
IsOnce s [] = Unit {0}
IsOnce s (p ∷ ps) = IsOff s ps p × IsOnce s ps

IsOff-tail : (s : ShapeView) (q : Place) (ps : List Place) (p : Place) → IsOff s (q ∷ ps) p → IsOff s ps p
IsOff-tail s q ps p h = λ k l. h (suc k) (omega arith)

AreLendable-tail : (s : ShapeView) (p : Place) (ps : List Place) → AreLendable s (p ∷ ps) → AreLendable s ps
AreLendable-tail s p ps h = record {
  exist = λ i l. h.exist (suc i) (omega arith);
  distinct = λ i j l m. h.distinct (suc i) (suc j) (omega arith) (omega arith);
}

pub IsOnce-from_lendable : (s : ShapeView) (ps : List Place) → AreLendable s ps → IsOnce s ps
IsOnce-from_lendable s [] h = tt
IsOnce-from_lendable s (p ∷ ps) h = (
  (λ k l e. h.distinct 0 (suc k) (omega arith) (omega arith)
      (same_place_from_index s p (place_in ps k) (h.exist 0 (omega arith)) (h.exist (suc k) (omega arith)) (sym e))),
  IsOnce-from_lendable s ps (AreLendable-tail s p ps h),
)

-- a block that isn't lent is as it was
pub block_of-without : (s : Store) (ps : List Place) (p : Place) → IsOff s.shape ps p → block_of (without s ps) p ≡ block_of s p
block_of-without s [] p h = refl
block_of-without s (q ∷ ps) p h =
    block_of-without (set_block s q []) ps p (IsOff-tail s.shape q ps p h)
    ∙ get_or-set_other s.blocks (place_index s.shape q) (place_index s.shape p) [] [] (λ e. h 0 (omega arith) (sym e))

-- a block that is lent has no words in the rest
pub block_of-without_lent : (s : Store) (ps : List Place) (i : ℕ) → IsOnce s.shape ps → i < length ps → place_index s.shape (place_in ps i) < length s.blocks
    → block_of (without s ps) (place_in ps i) ≡ []
block_of-without_lent s [] i once l room = absurd (omega arith)
block_of-without_lent s (p ∷ ps) zero once l room = block_of-without (set_block s p []) ps p once.0 ∙ get_or-set_same s.blocks (place_index s.shape p) [] []
    room
block_of-without_lent s (p ∷ ps) (suc i) once l room =
    block_of-without_lent (set_block s p []) ps i once.1 (omega arith) (omega (arith, room, length-set s.blocks (place_index s.shape p) []))

pub shape-without : (s : Store) (ps : List Place) → (without s ps).shape ≡ s.shape
shape-without s [] = refl
shape-without s (p ∷ ps) = shape-without (set_block s p []) ps

pub without_push : (s : Store) (ps : List Place) (p : Place) → without s (ps ++ p ∷ []) ≡ set_block (without s ps) p []
without_push s [] p = refl
without_push s (q ∷ ps) p = without_push (set_block s q []) ps p

-- writes to two blocks, in either order
set_block_comm : (s : Store) (p q : Place) (x y : List ℕ) → place_index s.shape q ≢ place_index s.shape p → set_block (set_block s q y) p x
    ≡ set_block (set_block s p x) q y
set_block_comm s p q x y n = store_from_parts _ _ refl (set_comm s.blocks (place_index s.shape q) (place_index s.shape p) y x n)

set_block-without : (s : Store) (ps : List Place) (p : Place) (x : List ℕ) → IsOff s.shape ps p → set_block (without s ps) p x ≡ without (set_block s p x) ps
set_block-without s [] p x h = refl
set_block-without s (q ∷ ps) p x h =
    set_block-without (set_block s q []) ps p x (IsOff-tail s.shape q ps p h)
    ∙ ap (λ (t : Store). without t ps) (set_block_comm s p q x [] (h 0 (omega arith)))

-- the words of these places, put back where they stood
joined_back : (s t : Store) (ps : List Place) → IsOnce t.shape ps → ((k : ℕ) → k < length ps → block_of s (place_in ps k) ≡ block_of t (place_in ps k))
    → store_rejoined (without t ps) (bays_of s ps) ≡ t
joined_back s t [] once same = refl
joined_back s t (p ∷ ps) once same =
    ap (λ (r : Store). store_rejoined r (bays_of s ps))
    (set_block-without (set_block t p []) ps p (block_of s p) once.0
    ∙ ap (λ (r : Store). without r ps) (store_from_parts (set_block (set_block t p []) p (block_of s p)) t refl
    (set-set t.blocks (place_index t.shape p) [] (block_of s p)
    ∙ ap (λ (x : List ℕ). set t.blocks (place_index t.shape p) x) (same 0 (omega arith))
    ∙ set-get_or t.blocks (place_index t.shape p) [])))
    ∙ joined_back s t ps once.1 (λ k l. same (suc k) (omega arith))

-- what was parted, joined again
pub joined-without : (s : Store) (ps : List Place) → AreLendable s.shape ps → store_rejoined (without s ps) (bays_of s ps) ≡ s
joined-without s ps h = joined_back s s ps (IsOnce-from_lendable s.shape ps h) (λ k l. refl)

-- one more place is lent
pub off_earlier : (s : ShapeView) (ps : List Place) (i : ℕ) → AreLendable s ps → i < length ps → IsOff s (take i ps) (place_in ps i)
off_earlier s ps i h l = λ k m e.
    let below : k < i = omega (arith, m, length-take-le i ps (omega arith)) in
    let at : place_in (take i ps) k ≡ place_in ps k = get_or-take i ps k _ below in
    h.distinct k i below l (same_place_from_index s (place_in ps k) (place_in ps i) (h.exist k (omega arith)) (h.exist i l) (ap (place_index s) (sym at) ∙ e))

-- the bay of a place
abbrev pub bay_at : Store → Place → BlockAt
bay_at s p = record { place = p; words = block_of s p }

pub Rejoins-parted : (s : Store) (ps : List Place) → IsWhole s → AreLendable s.shape ps → Rejoins (without s ps) (bays_of s ps)
Rejoins-parted s ps w h = record {
  exist = λ k d l.
      let below : k < length ps = omega (arith, length-map ps (λ (p : Place). bay_at s p)) in
      let at : get_or (bays_of s ps) k d ≡ bay_at s (place_in ps k) = get_or-map (λ (p : Place). bay_at s p) ps k _ d below in
      subst₂ (λ (x : ShapeView) (b : BlockAt). HasPlace x b.place) (sym (shape-without s ps)) (sym at) (h.exist k below);
  whole = subst IsWhole (sym (joined-without s ps h)) w;
}

-- a write off all bays
pub set_block-joined : (s : Store) (bays : List BlockAt) (p : Place) (x : List ℕ) → IsOff s.shape (places_of bays) p → store_rejoined (set_block s p x) bays
    ≡ set_block (store_rejoined s bays) p x
set_block-joined s [] p x h = refl
set_block-joined s (b ∷ bays) p x h =
    ap (λ (t : Store). store_rejoined t bays) (sym (set_block_comm s p b.place x b.words (h 0 (omega arith))))
    ∙ set_block-joined (set_block s b.place b.words) bays p x (IsOff-tail s.shape b.place (places_of bays) p h)

-- a block off all bays is the rest's
pub block_of-joined_off : (s : Store) (bays : List BlockAt) (p : Place) → IsOff s.shape (places_of bays) p → block_of (store_rejoined s bays) p ≡ block_of s p
block_of-joined_off s [] p h = refl
block_of-joined_off s (b ∷ bays) p h =
    block_of-joined_off (set_block s b.place b.words) bays p (IsOff-tail s.shape b.place (places_of bays) p h)
    ∙ get_or-set_other s.blocks (place_index s.shape b.place) (place_index s.shape p) b.words [] (λ e. h 0 (omega arith) (sym e))

-- a bay's words stand at its place
pub block_of-joined_bay : (s : Store) (bays : List BlockAt) (k : ℕ) → IsOnce s.shape (places_of bays) → k < length bays
    → place_index s.shape (bay_in bays k).place < length s.blocks → block_of (store_rejoined s bays) (bay_in bays k).place ≡ (bay_in bays k).words
block_of-joined_bay s [] k once l room = absurd (omega arith)
block_of-joined_bay s (b ∷ bays) zero once l room =
    block_of-joined_off (set_block s b.place b.words) bays b.place once.0
    ∙ get_or-set_same s.blocks (place_index s.shape b.place) b.words [] room
block_of-joined_bay s (b ∷ bays) (suc k) once l room =
    block_of-joined_bay (set_block s b.place b.words) bays k once.1 (omega arith)
    (omega (arith, room, length-set s.blocks (place_index s.shape b.place) b.words))

-- other words in a bay are other words at its place
pub joined-set : (s : Store) (bays : List BlockAt) (k : ℕ) (ws : List ℕ) → IsOnce s.shape (places_of bays) → k < length bays
    → store_rejoined s (set bays k (record { place = (bay_in bays k).place; words = ws })) ≡ set_block (store_rejoined s bays) (bay_in bays k).place ws
joined-set s [] k ws once l = absurd (omega arith)
joined-set s (b ∷ bays) zero ws once l =
    ap (λ (t : Store). store_rejoined t bays) (store_from_parts (set_block s b.place ws) (set_block (set_block s b.place b.words) b.place ws) refl
    (sym (set-set s.blocks (place_index s.shape b.place) b.words ws)))
    ∙ set_block-joined (set_block s b.place b.words) bays b.place ws once.0
joined-set s (b ∷ bays) (suc k) ws once l = joined-set (set_block s b.place b.words) bays k ws once.1 (omega arith)

-- one word set in a bay is that word set in the store
pub joined-set_word : (s : Store) (bays : List BlockAt) (k j w : ℕ) → IsOnce s.shape (places_of bays) → k < length bays
    → place_index s.shape (bay_in bays k).place < length s.blocks
    → store_rejoined s (set bays k (record { place = (bay_in bays k).place; words = set (bay_in bays k).words j w }))
    ≡ set_word (store_rejoined s bays) (bay_in bays k).place j w
joined-set_word s bays k j w once l room =
    joined-set s bays k (set (bay_in bays k).words j w) once l
    ∙ ap (λ (ws : List ℕ). set_block (store_rejoined s bays) (bay_in bays k).place (set ws j w)) (sym (block_of-joined_bay s bays k once l room))

-- the bays of places stand there
pub places_of-bays_of : (s : Store) (ps : List Place) → places_of (bays_of s ps) ≡ ps
places_of-bays_of s [] = refl
places_of-bays_of s (p ∷ ps) = ap (λ (xs : List Place). p ∷ xs) (places_of-bays_of s ps)

length-without : (s : Store) (ps : List Place) → length (without s ps).blocks ≡ length s.blocks
length-without s [] = refl
length-without s (p ∷ ps) = length-without (set_block s p []) ps ∙ length-set s.blocks _ _

-- what was parted is lent
pub AreLent-parted : (s : Store) (ps : List Place) → IsWhole s → AreLendable s.shape ps → AreLent (without s ps) (bays_of s ps)
AreLent-parted s ps w h = record {
  lendable = subst₂ AreLendable (sym (shape-without s ps)) (sym (places_of-bays_of s ps)) h;
  all_blocks = length-without s ps ∙ w.all_blocks ∙ ap (λ (x : ShapeView). x.modules * x.blocks) (sym (shape-without s ps));
}
