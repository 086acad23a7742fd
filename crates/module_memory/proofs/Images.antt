-- Images of stores.
use Rattle.std.proofs.Common.{ℕ, zero, suc, ◌≡◌, ◌<◌, ◌≤◌, ◌+◌, ◌*◌, ◌^◌, List, [], ◌∷◌, ◌++◌, length, map, get_or, take, drop, refl, sym, ap, ap₂, ◌∙◌, subst, arith, append_assoc, length-append}
use Rattle.std.proofs.Common.{length-take, length-drop}
use Rattle.std.specs.List.{flat_map}
use Rattle.std.specs.Simd.{first_chunks}
use Rattle.std.proofs.lemmas.Nat.{le_bytes_4, from_le_bytes-to_le_bytes_4}
use Rattle.std.proofs.Math.Nat.{mul-le-mul_left}
use Rattle.std.proofs.lemmas.List.{nil_from_length, take-append-drop, take-append-le, drop-append-le, drop_at, drop-drop, get_or-drop, ext_get_or, flat_map_more}
use Rattle.batch.specs.ShapeView.{ShapeView}
use Rattle.batch.specs.Places.{HasPlace, place_index}
use Rattle.batch.specs.declared.transfer.Place.{Place}
use Rattle.batch.proofs.Places.{place_index_below}
use Rattle.module_memory.specs.Store.{Store, IsWhole, block_of, word}
use Rattle.module_memory.specs.Images.{bytes_of_word, word_of_bytes, bytes_of_block, image_of, word_in_image, HasImage}
use Rattle.module_memory.specs.Laws.{ImagesAreWhole, WordsAreInImages, OneImaged}
use Rattle.module_memory.proofs.Blocks.{all_blocks, block_length, same_store}

-- ---- bytes, four by four

-- the first of some bytes are bytes
pub small_take : (n : ℕ) (xs : List ℕ) → ((i : ℕ) → get_or xs i 0 < 2 ^ 8) → (i : ℕ) → get_or (take n xs) i 0 < 2 ^ 8
small_take zero xs h i = omega arith
small_take (suc n) [] h i = omega arith
small_take (suc n) (x ∷ xs) h zero = h 0
small_take (suc n) (x ∷ xs) h (suc i) = small_take n xs (λ (k : ℕ). h (suc k)) i

-- the words of bytes have these bytes
pub bytes_again : (k : ℕ) (xs : List ℕ) → length xs ≡ 4 * k → ((i : ℕ) → get_or xs i 0 < 2 ^ 8) → bytes_of_block (map word_of_bytes (first_chunks 4 k xs)) ≡ xs
bytes_again zero xs e h = sym (nil_from_length xs e)
bytes_again (suc k) xs e h =
    let first : bytes_of_word (word_of_bytes (take 4 xs)) ≡ take 4 xs = le_bytes_4 (take 4 xs) _ (omega (arith, length-take 4 xs)) (small_take 4 xs h) refl in
    let others : bytes_of_block (map word_of_bytes (first_chunks 4 k (drop 4 xs))) ≡ drop 4 xs = bytes_again k (drop 4 xs) (omega (arith, length-drop 4 xs))
    (λ i. rw get_or-drop (h (4 + i))) in
    ap₂ (λ (a b : List ℕ). a ++ b) first others ∙ take-append-drop 4 xs

-- ---- blocks that are read

-- the words of all blocks have four bytes
abbrev pub AreSmall : List (List ℕ) → Type 0
AreSmall blocks = (k j : ℕ) → get_or (get_or blocks k []) j 0 < 2 ^ 32

-- so many blocks, of so many words each
pub record AreRead (width n : ℕ) (blocks : List (List ℕ)) : Type 0 where
  pub count : length blocks ≡ n
  pub long : (k : ℕ) → k < length blocks → length (get_or blocks k []) ≡ width
  pub words : AreSmall blocks

long_more : (width : ℕ) (blocks : List (List ℕ)) (b : List ℕ) → length b ≡ width → ((k : ℕ) → k < length blocks → length (get_or blocks k []) ≡ width) → (k : ℕ)
    → k < length (blocks ++ b ∷ []) → length (get_or (blocks ++ b ∷ []) k []) ≡ width
long_more width [] b e h zero l = e
long_more width [] b e h (suc k) l = absurd (omega arith)
long_more width (x ∷ xs) b e h zero l = h 0 (omega arith)
long_more width (x ∷ xs) b e h (suc k) l = long_more width xs b e (λ (i : ℕ) m. h (suc i) (omega arith)) k (omega arith)

pub words_more : (blocks : List (List ℕ)) (b : List ℕ) → ((j : ℕ) → get_or b j 0 < 2 ^ 32) → AreSmall blocks → AreSmall (blocks ++ b ∷ [])
words_more [] b e h zero j = e j
words_more [] b e h (suc k) j = omega arith
words_more (x ∷ xs) b e h zero j = h 0 j
words_more (x ∷ xs) b e h (suc k) j = words_more xs b e (λ (i : ℕ). h (suc i)) k j

pub more_read : (width n : ℕ) (blocks : List (List ℕ)) (b : List ℕ) → length b ≡ width → ((j : ℕ) → get_or b j 0 < 2 ^ 32) → AreRead width n blocks
    → AreRead width (n + 1) (blocks ++ b ∷ [])
more_read width n blocks b e f h = record {
  count = omega (arith, length-append blocks (b ∷ []), h.count);
  long = long_more width blocks b e h.long;
  words = words_more blocks b f h.words;
}

-- the bytes of what is read and of what is left are all bytes
pub image_more : (blocks : List (List ℕ)) (b rest bytes : List ℕ) (n : ℕ) → bytes_of_block b ≡ take n rest → flat_map bytes_of_block blocks ++ rest ≡ bytes
    → flat_map bytes_of_block (blocks ++ b ∷ []) ++ drop n rest ≡ bytes
image_more blocks b rest bytes n e h =
    let before = flat_map bytes_of_block blocks in
    ap (λ (x : List ℕ). x ++ drop n rest) (sym (flat_map_more bytes_of_block [] blocks b))
    ∙ append_assoc before (bytes_of_block b) (drop n rest)
    ∙ ap (λ (x : List ℕ). before ++ (x ++ drop n rest)) e
    ∙ ap (λ (x : List ℕ). before ++ x) (take-append-drop n rest)
    ∙ h

-- while blocks are left, so are the bytes of one
pub room_left : (m b w n all left : ℕ) → left + 4 * w * n ≡ all → all ≡ 4 * (m * b * w) → n < m * b → 4 * w ≤ left
room_left m b w n all left e f l = let more : n + 1 ≤ m * b = omega arith in omega (arith, mul-le-mul_left (4 * w) more)

-- ---- parts of one length, one after the other

-- all of them
pub parts_length : {X : Type 0} (f : X → List ℕ) (n : ℕ) (xs : List X) (d : X) → ((i : ℕ) → i < length xs → length (f (get_or xs i d)) ≡ n)
    → length (flat_map f xs) ≡ n * length xs
parts_length f n [] d h = omega arith
parts_length f n (x ∷ xs) d h =
    let first : length (f x) ≡ n = h 0 (omega arith) in
    let others : length (flat_map f xs) ≡ n * length xs = parts_length f n xs d (λ (i : ℕ) l. h (suc i) (omega arith)) in
    length-append (f x) (flat_map f xs) ∙ omega (arith, first, others)

-- some elements of one of them
pub part_at : {X : Type 0} (f : X → List ℕ) (n m j : ℕ) (xs : List X) (d : X) (k : ℕ) → ((i : ℕ) → i < length xs → length (f (get_or xs i d)) ≡ n) → j + m ≤ n
    → k < length xs → take m (drop (n * k + j) (flat_map f xs)) ≡ take m (drop j (f (get_or xs k d)))
part_at f n m j [] d k h l below = absurd (omega arith)
part_at f n m j (x ∷ xs) d zero h l below =
    let first : length (f x) ≡ n = h 0 (omega arith) in
    let at : n * 0 + j ≡ j = omega arith in
    ap (λ (i : ℕ). take m (drop i (f x ++ flat_map f xs))) at
    ∙ ap (take m) (drop-append-le j (f x) (flat_map f xs) (omega arith))
    ∙ take-append-le m (drop j (f x)) (flat_map f xs) (omega (arith, length-drop j (f x)))
part_at f n m j (x ∷ xs) d (suc k) h l below =
    let first : length (f x) ≡ n = h 0 (omega arith) in
    let at : n * suc k + j ≡ n + (n * k + j) = omega arith in
    ap (λ (i : ℕ). take m (drop i (f x ++ flat_map f xs))) at
    ∙ ap (take m) (sym (drop-drop (n * k + j) n (f x ++ flat_map f xs)))
    ∙ ap (λ (ys : List ℕ). take m (drop (n * k + j) ys)) (drop_at (f x) (flat_map f xs) n first)
    ∙ part_at f n m j xs d k (λ (i : ℕ) e. h (suc i) (omega arith)) l (omega arith)

-- ---- the laws

pub block_bytes : (words : List ℕ) → length (bytes_of_block words) ≡ 4 * length words
block_bytes words = parts_length bytes_of_word 4 words 0 (λ i l. refl)

-- the blocks of a whole store have as many bytes each
even_blocks : (s : Store) → IsWhole s → (k : ℕ) → k < length s.blocks → length (bytes_of_block (get_or s.blocks k [])) ≡ 4 * s.shape.words
even_blocks s whole k l = block_bytes (get_or s.blocks k []) ∙ ap (λ (n : ℕ). 4 * n) (whole.all_words k l)

pub images_are_whole : ImagesAreWhole
images_are_whole s whole =
    let b = s.shape.words in
    parts_length bytes_of_block (4 * b) s.blocks [] (even_blocks s whole)
    ∙ ap (λ (n : ℕ). 4 * b * n) whole.all_blocks
    ∙ omega arith

-- the bytes of a word, where they stand in the image
bytes_there : (s : Store) (p : Place) (j : ℕ) → IsWhole s → HasPlace s.shape p → j < s.shape.words → word_in_image s.shape (image_of s) p j
    ≡ bytes_of_word (word s p j)
bytes_there s p j whole hp l =
    let k = place_index s.shape p in
    let w = s.shape.words in
    let below : k < length s.blocks = omega (arith, place_index_below s.shape p hp, whole.all_blocks) in
    let at : 4 * (w * k + j) ≡ 4 * w * k + 4 * j = omega arith in
    let one : 4 * j ≡ 4 * j + 0 = omega arith in
    ap (λ (i : ℕ). take 4 (drop i (image_of s))) at
    ∙ part_at bytes_of_block (4 * w) 4 (4 * j) s.blocks [] k (even_blocks s whole) (omega arith) below
    ∙ ap (λ (i : ℕ). take 4 (drop i (bytes_of_block (block_of s p)))) one
    ∙ part_at bytes_of_word 4 4 0 (block_of s p) 0 j (λ i m. refl) (omega arith) (omega (arith, block_length s p whole hp))

pub words_are_in_images : WordsAreInImages
words_are_in_images s p j whole small hp l =
    sym (ap word_of_bytes (bytes_there s p j whole hp l) ∙ from_le_bytes-to_le_bytes_4 (word s p j) (small p j))

-- a word of a store that has an image
word_of_image : (shape : ShapeView) (image : List ℕ) (s : Store) → HasImage shape image s → (p : Place) (j : ℕ) → HasPlace shape p → j < shape.words
    → word s p j ≡ word_of_bytes (word_in_image shape image p j)
word_of_image shape image s h p j hp l =
    let hp' : HasPlace s.shape p = subst (λ (x : ShapeView). HasPlace x p) (sym h.same_shape) hp in
    let l' : j < s.shape.words = subst (λ (x : ShapeView). j < x.words) (sym h.same_shape) l in
    words_are_in_images s p j h.whole h.words hp' l'
    ∙ ap₂ (λ (x : ShapeView) (bytes : List ℕ). word_of_bytes (word_in_image x bytes p j)) h.same_shape h.image_is

-- how many words its blocks have
long_block : (shape : ShapeView) (image : List ℕ) (s : Store) → HasImage shape image s → (p : Place) → HasPlace shape p → length (block_of s p) ≡ shape.words
long_block shape image s h p hp =
    block_length s p h.whole (subst (λ (x : ShapeView). HasPlace x p) (sym h.same_shape) hp) ∙ ap (λ (x : ShapeView). x.words) h.same_shape

pub one_imaged : OneImaged
one_imaged shape image a b ha hb =
    let same : (p : Place) → HasPlace a.shape p → block_of a p ≡ block_of b p = λ p hp'.
    let hp : HasPlace shape p = subst (λ (x : ShapeView). HasPlace x p) ha.same_shape hp' in
    let la : length (block_of a p) ≡ shape.words = long_block shape image a ha p hp in
    let lb : length (block_of b p) ≡ shape.words = long_block shape image b hb p hp in
    ext_get_or 0 (block_of a p) (block_of b p) (la ∙ sym lb)
    (λ j l. let below : j < shape.words = omega arith in word_of_image shape image a ha p j hp below ∙ sym (word_of_image shape image b hb p j hp below)) in
    let shapes : b.shape ≡ a.shape = hb.same_shape ∙ sym ha.same_shape in
    let counts : length b.blocks ≡ length a.blocks = hb.whole.all_blocks ∙ ap (λ (x : ShapeView). x.modules * x.blocks) shapes ∙ sym ha.whole.all_blocks in
    same_store a a b (all_blocks a ha.whole) refl shapes refl counts same
