-- What the laws state. Proofs use them; no contract of a call cites them.
use Rattle.std.specs.Prelude.{◌≡◌, ◌≢◌, ◌<◌, ℕ, List, [], ◌∷◌, ◌++◌, All}
use Rattle.batch_book.specs.declared.entry.Entry.{Entry}
use Rattle.book_record.specs.RecordText.{entry_lines, texts, CanTell}
use Rattle.book_record.specs.Sums.{sum_at}
use Rattle.book_record.specs.Fronts.{IsTorn, IsCutOff, end_line, last_lines}

-- wherever the text of entries is cut, there are whole entries, and the front of one
abbrev pub EachFrontIsRead : Type 0
EachFrontIsRead =
    (n : ℕ) (es : List Entry) (front missing : List ℕ) → All CanTell es
    → texts n es ≡ front ++ missing → IsCutOff n es front

-- the last lines are torn wherever they are cut, and no entry has them
abbrev pub EndIsNoEntry : Type 0
EndIsNoEntry =
    ((n : ℕ) (front missing : List ℕ) → last_lines n ≡ front ++ missing → missing ≢ []
    → IsTorn front)
    × ((n : ℕ) (e : Entry) → CanTell e → entry_lines e ≢ end_line n)

-- where one byte of some lines is another, or their number, their sum is another
abbrev pub SeesBytes : Type 0
SeesBytes =
    ((n b c : ℕ) (before after : List ℕ) → b < 256 → c < 256 → b ≢ c
    → sum_at n (before ++ b ∷ after) ≢ sum_at n (before ++ c ∷ after))
    × ((n k : ℕ) (bytes : List ℕ) → n < 4294967296 → k < 4294967296 → n ≢ k
    → sum_at n bytes ≢ sum_at k bytes)
