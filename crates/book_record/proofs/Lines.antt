-- Where the lines of a batch end.
use Rattle.std.proofs.Common.{◌≡◌, ◌≢◌, ℕ, zero, suc, ◌+◌, ◌-◌, ◌<◌, List, [], ◌∷◌, ◌++◌, length, take, drop, Some, None, add-one, refl, sym, ap, ◌∙◌, append_assoc, arith}
use Rattle.std.specs.List.{flat_map}
use Rattle.std.proofs.Math.Seq.{drop-append-add}
use Rattle.std.proofs.lemmas.List.{append_cancel_right, take-append-drop}
use Rattle.batch.specs.Batches.{IsBatch}
use Rattle.batch.specs.ShapeView.{widest}
use Rattle.batch.specs.Faults.{IsFirstFault}
use Rattle.batch.specs.Text.{head, line, batch_text, line_feed}
use Rattle.batch.specs.declared.fault.BatchFault.{BatchFault}
use Rattle.batch.specs.declared.transfer.Transfer.{Transfer}
use Rattle.batch.proofs.OneReading.{apart}
use Rattle.batch.proofs.Shapes.{widest_shape}
use Rattle.book_record.specs.Reading.{after_end, after_line, after_lines}
use Rattle.book_record.proofs.Feeds.{IsOneLine, first_in, without_feed}
use Rattle.book_record.proofs.Marks.{heading, transfer_line}

after_one : {w : List ℕ} → IsOneLine w → (y : List ℕ) → after_line (w ++ y) ≡ Some y
after_one one y =
    let fed = one.words ++ line_feed ∷ y in
    ap after_line (ap (λ (l : List ℕ). l ++ y) one.are ∙ append_assoc one.words (line_feed ∷ []) y)
    ∙ ap (after_end fed) (first_in line_feed one.words y (without_feed one.plain)) ∙ ap Some (drop-append-add one.words (line_feed ∷ y) 1)

after_transfers : (ts : List Transfer) (x : List ℕ) → after_lines (length ts) (Some (flat_map line ts ++ x)) ≡ Some x
after_transfers [] x = refl
after_transfers (t ∷ ts) x =
    ap (λ (b : List ℕ). after_lines (length ts) (after_line b)) (append_assoc (line t) (flat_map line ts) x)
    ∙ ap (after_lines (length ts)) (after_one (transfer_line t) (flat_map line ts ++ x)) ∙ after_transfers ts x

after_batch : (ts : List Transfer) (x : List ℕ) → after_lines (length ts + 1) (Some (batch_text ts ++ x)) ≡ Some x
after_batch ts x =
    ap (λ (n : ℕ). after_lines n (Some (batch_text ts ++ x))) (add-one (length ts))
    ∙ ap (λ (b : List ℕ). after_lines (length ts) (after_line b)) (append_assoc (head (length ts)) (flat_map line ts) x)
    ∙ ap (after_lines (length ts)) (after_one (heading (length ts)) (flat_map line ts ++ x)) ∙ after_transfers ts x

-- ---- what end_of_lines goes through

-- one line less
pub one_less : (count k : ℕ) (text : List ℕ) → k < count → after_lines (count - k) (Some text) ≡ after_lines (count - (k + 1)) (after_line text)
one_less count k text less =
    let e : count - k ≡ suc (count - (k + 1)) = omega arith in
    ap (λ (n : ℕ). after_lines n (Some text)) e

none_behind : (n : ℕ) → after_lines n None ≡ None
none_behind zero = refl
none_behind (suc n) = refl

-- no line ends any more
pub none_left : (count k : ℕ) (text : List ℕ) → k < count → after_line text ≡ None → after_lines (count - k) (Some text) ≡ None
none_left count k text less none = one_less count k text less ∙ ap (after_lines (count - (k + 1))) none ∙ none_behind (count - (k + 1))

-- ---- a batch that was cut out by its lines

there : (text rest : List ℕ) (ts : List Transfer) (count : ℕ) → length ts ≡ count → text ≡ batch_text ts ++ rest → after_lines (count + 1) (Some text)
    ≡ Some rest
there text rest ts count long same = ap (λ (n : ℕ). after_lines (n + 1) (Some text)) (sym long) ∙ ap (λ (b : List ℕ). after_lines (length ts + 1) (Some b)) same
    ∙ after_batch ts rest

-- where there are too few lines there is no batch of so many
pub too_few : (text rest : List ℕ) (ts : List Transfer) (count : ℕ) → length ts ≡ count → after_lines (count + 1) (Some text) ≡ None → text ≢ batch_text ts
    ++ rest
too_few text rest ts count long none same = let some = there text rest ts count long same in absurd cc

-- what was cut out is the text of the batch that stands there; so where that has a fault no batch
-- of so many stands there
pub faulty : (text rest : List ℕ) (ts : List Transfer) (count end : ℕ) (fault : BatchFault) → IsBatch ts → length ts ≡ count
    → after_lines (count + 1) (Some text) ≡ Some (drop end text) → IsFirstFault widest (take end text) fault → text ≢ batch_text ts ++ rest
faulty text rest ts count end fault is long some first same =
    let here = there text rest ts count long same in
    let after : drop end text ≡ rest = cc in
    let spelled = append_cancel_right (take end text) (batch_text ts) rest (ap (λ (b : List ℕ). take end text ++ b) (sym after) ∙ take-append-drop end text
    ∙ same) in
    apart widest widest_shape (take end text) ts fault (record { spelled = spelled; few = is.few; within = is.within }) first
