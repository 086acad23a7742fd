-- What the head of a record says of the rack.
use Rattle.std.proofs.Common.{◌≡◌, ℕ, true, false, not, ◌&&◌, eq-eqb, List, [], ◌∷◌, ◌≤◌, ◌++◌, append_assoc, length, length-append, Option, None, Some, refl, sym, ap, arith, ◌∙◌, subst}
use lib.Dec.{eqb}
use Rattle.std.specs.Fmt.{decimal}
use Rattle.batch.specs.ShapeView.{ShapeView, IsShape}
use Rattle.batch.specs.ShapeText.{shape_text}
use Rattle.line_words.specs.HexWords.{IsWord}
use Rattle.module_memory.specs.Images.{image_of}
use Rattle.module_memory.specs.Store.{Store}
use Rattle.book_record.specs.Heads.{AreNames, BeginsWithNoHead, head_of, rack_line}
use Rattle.book_record.specs.Sums.{adler}
use Rattle.book_record.proofs.Heads.{counted, one_head}
use Rattle.book_record.proofs.Sums.{sum_is_word}
use Rattle.record_replay.specs.ReplayAnswers.{HasHead, IsHeadDue, IsNoRecordOn, IsRecordOn, IsShapeOf}

-- what is read of a head
abbrev IsRead : List ℕ → ShapeView → ℕ → ℕ → List ℕ → Type 0
IsRead recorded e sum n body = IsShape e × IsWord sum × ((names : List (List ℕ)) × AreNames names n × (recorded ≡ head_of e sum names ++ body))

-- a record that begins with no head is none on any rack
pub no_record : (opening : Store) (recorded : List ℕ) → IsShape opening.shape → BeginsWithNoHead recorded → IsNoRecordOn opening recorded
no_record opening recorded shape none body limit on = none opening.shape (adler (image_of opening)) (length on.names) on.names body shape
    (sum_is_word (image_of opening)) on.are on.head

-- nor is one whose head says another shape or sum
pub other_record : (opening : Store) (recorded body : List ℕ) (e : ShapeView) (sum n : ℕ) → IsShape opening.shape → IsRead recorded e sum n body
    → (e ≡ opening.shape → sum ≡ adler (image_of opening) → ⊥) → IsNoRecordOn opening recorded
other_record opening recorded body e sum n shape read other after limit on =
    let one = one_head e opening.shape sum (adler (image_of opening)) read.2.0 on.names body after read.0 shape read.1 (sum_is_word (image_of opening))
    (counted read.2.0 n read.2.1) on.are (sym read.2.2 ∙ on.head) in
    other one.shape one.sum

-- a shape is none but itself
pub same_shape : (e f : ShapeView) → not (eqb e.modules f.modules && (eqb e.blocks f.blocks && eqb e.words f.words)) ≡ true → e ≡ f → ⊥
same_shape e f apart is =
    let modules = eq-eqb e.modules f.modules (ap (λ (x : ShapeView). x.modules) is) in
    let blocks = eq-eqb e.blocks f.blocks (ap (λ (x : ShapeView). x.blocks) is) in
    let words = eq-eqb e.words f.words (ap (λ (x : ShapeView). x.words) is) in
    let same : not (eqb e.modules f.modules && (eqb e.blocks f.blocks && eqb e.words f.words)) ≡ false = rw modules (rw blocks (rw words refl)) in
    absurd cc

-- what stands after the head is no more than the record
pub body_within : (opening : Store) (recorded body : List ℕ) (limit : ℕ) → IsRecordOn opening recorded body limit → length body ≤ length recorded
body_within opening recorded body limit on = omega (arith, ap length on.head, length-append (head_of opening.shape (adler (image_of opening)) on.names) body)

spelled_so : (a b c : List ℕ) → a ++ (120 ∷ (b ++ (120 ∷ c))) ≡ (((a ++ 120 ∷ []) ++ b) ++ 120 ∷ []) ++ c
spelled_so a b c = simp append_assoc

-- three numbers are the text of their shape
pub spelled : (e : ShapeView) (a b c : ℕ) (text : List ℕ) → text ≡ decimal a ++ (120 ∷ (decimal b ++ (120 ∷ decimal c))) → a ≡ e.modules → b ≡ e.blocks → c
    ≡ e.words → text ≡ shape_text e
spelled e a b c text is modules blocks words =
    is ∙ spelled_so (decimal a) (decimal b) (decimal c) ∙ ap (λ (n : ℕ). (((decimal n ++ 120 ∷ []) ++ decimal b) ++ 120 ∷ []) ++ decimal c) modules
    ∙ ap (λ (n : ℕ). (((decimal e.modules ++ 120 ∷ []) ++ decimal n) ++ 120 ∷ []) ++ decimal c) blocks
    ∙ ap (λ (n : ℕ). (((decimal e.modules ++ 120 ∷ []) ++ decimal e.blocks) ++ 120 ∷ []) ++ decimal n) words

abbrev has_head : (recorded body : List ℕ) (e : ShapeView) (sum n : ℕ) → IsRead recorded e sum n body → HasHead recorded
has_head recorded body e sum n read = record {
  shape = e;
  sum = sum;
  names = read.2.0;
  body = body;
  allowed = read.0;
  word = read.1;
  are = counted read.2.0 n read.2.1;
  head = read.2.2;
}

-- the shape is that of the head, where none is given
pub shape_of_head : (shape : Option (List ℕ)) (recorded body text : List ℕ) (e : ShapeView) (sum n : ℕ) → shape ≡ None → IsRead recorded e sum n body → text
    ≡ shape_text e → IsShapeOf shape recorded text
shape_of_head shape recorded body text e sum n none read is =
    subst (λ (o : Option (List ℕ)). IsShapeOf o recorded text) (sym none) (has_head recorded body e sum n read, is)

-- the first line that is due where a head stands
pub line_due : (opening : Store) (recorded body line : List ℕ) (e : ShapeView) (sum n : ℕ) → IsRead recorded e sum n body → line
    ≡ rack_line opening.shape (adler (image_of opening)) n → IsHeadDue opening recorded (Some line)
line_due opening recorded body line e sum n read is =
    (has_head recorded body e sum n read, is ∙ ap (rack_line opening.shape (adler (image_of opening))) (sym read.2.1.count))
