-- Images in which the blocks of a batch are placed.
use Rattle.std.proofs.Common.{ℕ, zero, suc, ◌≡◌, ◌≢◌, ◌<◌, ◌≤◌, ◌+◌, ◌*◌, ◌^◌, inl, inr, List, [], ◌∷◌, ◌++◌, length, map, get_or, set, take, drop, refl, sym, ap, ap₂, ◌∙◌, subst, arith, length-set}
use Rattle.std.proofs.Common.{length-take, length-drop, get_or-set_same, get_or-set_other}
use Rattle.std.specs.Prelude.{All}
use Rattle.std.specs.List.{flat_map, range_with_len}
use Rattle.std.specs.Simd.{first_chunks}
use Rattle.std.proofs.Math.Nat.{mul-le-mul_left}
use Rattle.std.proofs.lemmas.Bool.{cases_eq}
use Rattle.std.proofs.lemmas.List.{flat_map_more, map-append, take_more, length-map, get_or-map, take_all, take-append-drop, get_or-drop, nil_from_length}
use Rattle.std.proofs.lemmas.List.FromFn.{length-range_with_len, get_or-range_with_len}
use Rattle.std.proofs.lemmas.List.Elements.{All-cons, All-set}
use Rattle.batch.specs.ShapeView.{ShapeView, IsShape}
use Rattle.batch.specs.Overlap.{IsApart, source_at, destination_at}
use Rattle.batch.specs.Places.{HasPlace, place_index}
use Rattle.batch.specs.declared.transfer.Place.{Place}
use Rattle.batch.specs.declared.transfer.Transfer.{Transfer}
use Rattle.batch.proofs.Places.{same_place_from_index, place_index_below}
use Rattle.module_memory.specs.Core.{FitsIn}
use Rattle.module_memory.specs.Images.{HasImage, bytes_of_block, image_length, word_of_bytes}
use Rattle.module_memory.specs.Placing.{AreSources, IsPlacedImage}
use Rattle.module_memory.specs.Store.{Store}
use Rattle.module_memory.proofs.Images.{AreSmall, block_bytes, bytes_again, part_at, small_take}

-- ---- the numbers of the sources

-- the same of the first so many transfers
pub record AreSourcesUpTo (shape : ShapeView) (ts : List Transfer) (n : ℕ) (sources : List ℕ) : Type 0 where
  pub each : length sources ≡ shape.modules * shape.blocks
  pub known : All (λ k. k < shape.modules * shape.blocks) sources
  pub written : (i : ℕ) → i < n → get_or sources (place_index shape (destination_at ts i)) 0 ≡ place_index shape (source_at ts i)
  pub others : (p : Place) → HasPlace shape p → ((i : ℕ) → i < n → destination_at ts i ≢ p) → get_or sources (place_index shape p) 0 ≡ place_index shape p

pub sources_more : (shape : ShapeView) (ts : List Transfer) (n to from : ℕ) (sources : List ℕ) → n < length ts → FitsIn shape ts → IsApart ts → to
    ≡ place_index shape (destination_at ts n) → from ≡ place_index shape (source_at ts n)
    → AreSourcesUpTo shape ts n sources → AreSourcesUpTo shape ts (n + 1) (set sources to from)
sources_more shape ts n to from sources below fits apart et ef h =
    let dest = destination_at ts n in
    let there : to < length sources = omega (arith, et, h.each, place_index_below shape dest (fits n below).1) in
    let other : (p : Place) → HasPlace shape p → dest ≢ p → get_or (set sources to from) (place_index shape p) 0 ≡ get_or sources (place_index shape p) 0 =
    λ p hp differ. get_or-set_other sources to (place_index shape p) from 0
    (λ e. differ (same_place_from_index shape dest p (fits n below).1 hp (sym et ∙ sym e))) in
    record {
      each = length-set sources to from ∙ h.each;
      known = All-set (λ k. k < shape.modules * shape.blocks) sources to from (omega (arith, ef, place_index_below shape (source_at ts n) (fits n below).0))
          h.known;
      written = λ i l. elim (cases_eq i n) [
        | inl same ↦ subst (λ (k : ℕ). get_or (set sources to from) (place_index shape (destination_at ts k)) 0 ≡ place_index shape (source_at ts k)) (sym same)
            (ap (λ (k : ℕ). get_or (set sources to from) k 0) (sym et) ∙ get_or-set_same sources to from 0 there ∙ ef)
        | inr differ ↦
            let less : i < n = omega arith in
            other (destination_at ts i) (fits i (omega arith)).1 (λ e. apart i n (record { ordered = less; within = below; one_destination = sym e }))
            ∙ h.written i less
      ];
      others = λ p hp none. other p hp (none n (omega arith)) ∙ h.others p hp (λ i l. none i (omega arith));
    }

pub sources_all : (shape : ShapeView) (ts : List Transfer) (n : ℕ) (sources : List ℕ) → n ≡ length ts → AreSourcesUpTo shape ts n sources
    → AreSources shape ts sources
sources_all shape ts n sources e h = record {
  each = h.each;
  known = h.known;
  written = λ i l. h.written i (omega arith);
  others = λ p hp none. h.others p hp (λ i l. none i (omega arith));
}

-- ---- the store of an image

word_small : (bytes : List ℕ) → ((i : ℕ) → get_or bytes i 0 < 2 ^ 8) → word_of_bytes bytes < 2 ^ 32
word_small bytes h = omega (arith, h 0, h 1, h 2, h 3)

-- so many blocks of so many words, read from bytes
pub blocks_of : ℕ → ℕ → List ℕ → List (List ℕ)
blocks_of words zero bytes = []
blocks_of words (suc n) bytes = map word_of_bytes (first_chunks 4 words (take (4 * words) bytes)) ∷ blocks_of words n (drop (4 * words) bytes)

-- while no transfer is looked at, each block gets its own words
all_below : (a n m : ℕ) → a + n ≤ m → All (λ k. k < m) (range_with_len a n)
all_below a zero m le = λ k d l. absurd (omega arith)
all_below a (suc n) m le = All-cons (λ k. k < m) a (range_with_len (a + 1) n) (omega arith) (all_below (a + 1) n m (omega arith))

pub own_sources : (shape : ShapeView) (ts : List Transfer) → AreSourcesUpTo shape ts 0 (range_with_len 0 (shape.modules * shape.blocks))
own_sources shape ts =
    let n = shape.modules * shape.blocks in
    record {
      each = length-range_with_len 0 n;
      known = all_below 0 n n (omega arith);
      written = λ i l. absurd (omega arith);
      others = λ p hp none. omega (arith, get_or-range_with_len 0 n (place_index shape p) 0 (place_index_below shape p hp));
    }

-- they are so many blocks, of so many words
pub all_read : (words n : ℕ) (bytes : List ℕ) → length (blocks_of words n bytes) ≡ n
unfolding blocks_of
all_read words zero bytes = refl
all_read words (suc n) bytes = ap suc (all_read words n (drop (4 * words) bytes))

one_read : (words : ℕ) (bytes : List ℕ) → 4 * words ≤ length bytes → ((i : ℕ) → get_or bytes i 0 < 2 ^ 8)
    → bytes_of_block (map word_of_bytes (first_chunks 4 words (take (4 * words) bytes))) ≡ take (4 * words) bytes
one_read words bytes long small = bytes_again words (take (4 * words) bytes) (omega (arith, length-take (4 * words) bytes)) (small_take (4 * words) bytes small)

-- whose bytes are these
pub bytes_read : (words n : ℕ) (bytes : List ℕ) → length bytes ≡ 4 * words * n → ((i : ℕ) → get_or bytes i 0 < 2 ^ 8)
    → flat_map bytes_of_block (blocks_of words n bytes) ≡ bytes
unfolding blocks_of
bytes_read words zero bytes e small = sym (nil_from_length bytes (omega arith))
bytes_read words (suc n) bytes e small =
    let long : 4 * words ≤ length bytes = omega arith in
    ap₂ (λ (a b : List ℕ). a ++ b) (one_read words bytes long small)
    (bytes_read words n (drop (4 * words) bytes) (omega (arith, length-drop (4 * words) bytes)) (λ i. rw get_or-drop (small (4 * words + i))))
    ∙ take-append-drop (4 * words) bytes

pub long_read : (words n : ℕ) (bytes : List ℕ) → length bytes ≡ 4 * words * n → ((i : ℕ) → get_or bytes i 0 < 2 ^ 8) → (k : ℕ) → k < n
    → length (get_or (blocks_of words n bytes) k []) ≡ words
unfolding blocks_of
long_read words zero bytes e small k l = absurd (omega arith)
long_read words (suc n) bytes e small zero l =
    let b = map word_of_bytes (first_chunks 4 words (take (4 * words) bytes)) in
    let long : 4 * words ≤ length bytes = omega arith in
    omega (arith, block_bytes b, ap (length {A = ℕ}) (one_read words bytes long small), length-take (4 * words) bytes)
long_read words (suc n) bytes e small (suc k) l =
    long_read words n (drop (4 * words) bytes) (omega (arith, length-drop (4 * words) bytes)) (λ i. rw get_or-drop (small (4 * words + i))) k (omega arith)

small_chunks : (n : ℕ) (bytes : List ℕ) → ((i : ℕ) → get_or bytes i 0 < 2 ^ 8) → (j : ℕ) → get_or (map word_of_bytes (first_chunks 4 n bytes)) j 0 < 2 ^ 32
small_chunks zero bytes small j = omega arith
small_chunks (suc n) bytes small zero = word_small (take 4 bytes) (small_take 4 bytes small)
small_chunks (suc n) bytes small (suc j) = small_chunks n (drop 4 bytes) (λ i. rw get_or-drop (small (4 + i))) j

pub small_read : (words n : ℕ) (bytes : List ℕ) → ((i : ℕ) → get_or bytes i 0 < 2 ^ 8) → AreSmall (blocks_of words n bytes)
unfolding blocks_of
small_read words zero bytes small k j = omega arith
small_read words (suc n) bytes small zero j = small_chunks words (take (4 * words) bytes) (small_take (4 * words) bytes small) j
small_read words (suc n) bytes small (suc k) j = small_read words n (drop (4 * words) bytes) (λ i. rw get_or-drop (small (4 * words + i))) k j

-- the store of an image
abbrev pub read_store : ShapeView → List ℕ → Store
read_store shape image = record { shape = shape; blocks = blocks_of shape.words (shape.modules * shape.blocks) image }

whole_length : (shape : ShapeView) (image : List ℕ) → length image ≡ image_length shape → length image ≡ 4 * shape.words * (shape.modules * shape.blocks)
whole_length shape image whole = whole ∙ omega arith

pub is_read : (shape : ShapeView) (image : List ℕ) → IsShape shape → length image ≡ image_length shape → ((i : ℕ) → get_or image i 0 < 2 ^ 8)
    → HasImage shape image (read_store shape image)
is_read shape image valid whole small =
    let n = shape.modules * shape.blocks in
    let long = whole_length shape image whole in
    record {
      same_shape = refl;
      whole = record {
        within = valid;
        all_blocks = all_read shape.words n image;
        all_words = λ k l. long_read shape.words n image long small k (omega (arith, all_read shape.words n image));
      };
      words = λ p j. small_read shape.words n image small (place_index shape p) j;
      image_is = bytes_read shape.words n image long small;
    }

-- ---- the store in which the blocks are placed

abbrev pub block_number : ShapeView → List ℕ → ℕ → List ℕ
block_number shape image k = get_or (read_store shape image).blocks k []

abbrev pub placed_blocks : ShapeView → List ℕ → List ℕ → List (List ℕ)
placed_blocks shape image sources = map (block_number shape image) sources

-- the bytes of a block stand where its number says
pub bytes_at : (shape : ShapeView) (image : List ℕ) (k from : ℕ) → length image ≡ image_length shape → ((i : ℕ) → get_or image i 0 < 2 ^ 8)
    → k < shape.modules * shape.blocks → from ≡ 4 * shape.words * k → take (4 * shape.words) (drop from image) ≡ bytes_of_block (block_number shape image k)
bytes_at shape image k from whole small below at =
    let w = shape.words in
    let n = shape.modules * shape.blocks in
    let long = whole_length shape image whole in
    let count = all_read w n image in
    let even : (i : ℕ) → i < length (blocks_of w n image) → length (bytes_of_block (get_or (blocks_of w n image) i [])) ≡ 4 * w =
    λ i l. block_bytes (get_or (blocks_of w n image) i []) ∙ ap (λ (x : ℕ). 4 * x) (long_read w n image long small i (omega arith)) in
    let start : from ≡ 4 * w * k + 0 = omega arith in
    ap₂ (λ (i : ℕ) (bytes : List ℕ). take (4 * w) (drop i bytes)) start (sym (bytes_read w n image long small))
    ∙ part_at bytes_of_block (4 * w) (4 * w) 0 (blocks_of w n image) [] k even (omega arith) (omega arith)
    ∙ take_all (4 * w) (bytes_of_block (block_number shape image k)) (let long_block = even k (omega arith) in omega (arith, long_block))

pub is_placed_image : (shape : ShapeView) (image : List ℕ) (ts : List Transfer) (sources placed : List ℕ) → IsShape shape → length image ≡ image_length shape
    → ((i : ℕ) → get_or image i 0 < 2 ^ 8) → FitsIn shape ts → AreSources shape ts sources
    → placed ≡ flat_map bytes_of_block (placed_blocks shape image sources) → IsPlacedImage shape image ts placed
is_placed_image shape image ts sources placed valid whole small fits are is =
    let n = shape.modules * shape.blocks in
    let there : (k : ℕ) → k < n → get_or (placed_blocks shape image sources) k [] ≡ block_number shape image (get_or sources k 0) =
    λ k l. get_or-map (block_number shape image) sources k 0 [] (omega (arith, are.each)) in
    record {
      old = read_store shape image;
      new = record { shape = shape; blocks = placed_blocks shape image sources };
      is_old = is_read shape image valid whole small;
      is_new = record {
        same_shape = refl;
        same_length = length-map sources (block_number shape image) ∙ are.each ∙ sym (all_read shape.words n image);
        destinations = λ i l. there (place_index shape (destination_at ts i)) (place_index_below shape (destination_at ts i) (fits i l).1)
            ∙ ap (block_number shape image) (are.written i l);
        others = λ p hp none. there (place_index shape p) (place_index_below shape p hp) ∙ ap (block_number shape image) (are.others p hp none);
      };
      image_is = is;
    }

-- one block more
pub more_placed : (shape : ShapeView) (image : List ℕ) (sources : List ℕ) (i from : ℕ) (placed : List ℕ) → length image ≡ image_length shape
    → ((j : ℕ) → get_or image j 0 < 2 ^ 8) → All (λ k. k < shape.modules * shape.blocks) sources → i < length sources → from
    ≡ 4 * shape.words * get_or sources i 0
    → placed ≡ flat_map bytes_of_block (placed_blocks shape image (take i sources)) → placed ++ take (4 * shape.words) (drop from image)
    ≡ flat_map bytes_of_block (placed_blocks shape image (take (i + 1) sources))
more_placed shape image sources i from placed whole small known l at is =
    let k = get_or sources i 0 in
    let before = placed_blocks shape image (take i sources) in
    let block = block_number shape image k in
    ap₂ (λ (a b : List ℕ). a ++ b) is (bytes_at shape image k from whole small (known i 0 l) at)
    ∙ flat_map_more bytes_of_block [] before block
    ∙ ap (flat_map bytes_of_block)
    (sym (ap (map (block_number shape image)) (take_more sources i 0 l) ∙ map-append (block_number shape image) (take i sources) (k ∷ [])))

-- its bytes end within the image
pub block_ends : (shape : ShapeView) (image sources : List ℕ) (i : ℕ) → length image ≡ image_length shape → All (λ k. k < shape.modules * shape.blocks) sources
    → i < length sources → 4 * shape.words * get_or sources i 0 + 4 * shape.words ≤ length image
block_ends shape image sources i whole known l =
    let less : get_or sources i 0 < shape.modules * shape.blocks = known i 0 l in
    let below : get_or sources i 0 + 1 ≤ shape.modules * shape.blocks = omega arith in
    omega (arith, whole_length shape image whole, mul-le-mul_left (4 * shape.words) below)
