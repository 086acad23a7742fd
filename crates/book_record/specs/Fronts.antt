-- A record that may have been cut: whole entries, and a rest that has no sum.
use Rattle.std.specs.Prelude.{◌≡◌, ◌≢◌, ◌⊎◌, ◌≤◌, ℕ, List, [], ◌∷◌, ◌++◌, ◌+◌, All, codes, length}
use Rattle.batch.specs.Text.{number, space, line_feed}
use Rattle.batch_book.specs.declared.entry.Entry.{Entry}
use Rattle.client_session.specs.Bytes.{HasNoFeed}
use Rattle.book_record.specs.RecordText.{entry_text, texts, CanTell}
use Rattle.book_record.specs.declared.record_prefix.RecordPrefix.{RecordPrefix}
use Rattle.book_record.specs.declared.record_prefix.RecordPrefix.TheVariants as front
use Rattle.book_record.specs.Sums.{HasNoMark, sum_mark, numbered, summed}

-- it has no whole line of a sum, right or wrong
abbrev pub IsUnfinished : List ℕ → Type 0
IsUnfinished text =
    (body line rest : List ℕ) → HasNoMark body → HasNoFeed line
    → text ≢ body ++ sum_mark ∷ (line ++ line_feed ∷ rest)

-- a line feed, or a character of ASCII from the space on
abbrev pub IsLineByte : ℕ → Type 0
IsLineByte b = (b ≡ line_feed) ⊎ ((space ≤ b) × (b ≤ 126))

-- torn off there: no line of a sum is whole, and each byte is one that lines have
abbrev pub IsTorn : List ℕ → Type 0
IsTorn text = IsUnfinished text × All IsLineByte text

-- after n entries it begins with these lines and the line of their sum
pub record IsSummed (n : ℕ) (text body rest : List ℕ) : Type 0 where
  pub none : HasNoMark body
  pub front : text ≡ summed n body ++ rest

-- after n entries it begins with no lines and their sum, nor was it torn off there
pub record IsDamaged (n : ℕ) (text : List ℕ) : Type 0 where
  pub unsummed : (body rest : List ℕ) → IsSummed n text body rest → ⊥
  pub whole : IsTorn text → ⊥

-- the rest is a front of the text of the first of these entries, and not the whole of it; where
-- there is no entry, there is no rest
abbrev pub BeginsFirst : ℕ → List Entry → List ℕ → Type 0
BeginsFirst n [] rest = rest ≡ []
BeginsFirst n (e ∷ es) rest =
    (missing : List ℕ) × (missing ≢ []) × (entry_text n e ≡ rest ++ missing)

-- a front of the text of these entries, which follow n others: the first of them are whole, and the
-- next one has begun
pub record IsCutOff (n : ℕ) (es : List Entry) (front : List ℕ) : Type 0 where
  pub whole : List Entry
  pub more : List Entry
  pub rest : List ℕ
  pub are : es ≡ whole ++ more
  pub read : front ≡ texts n whole ++ rest
  pub each : All CanTell whole
  pub torn : IsTorn rest
  pub begun : BeginsFirst (n + length whole) more rest

-- how a text begins that follows n entries
abbrev pub StandsInFront : ℕ → List ℕ → RecordPrefix → Type 0
StandsInFront n text (front.Whole body rest) = IsSummed n text body.now rest.now
StandsInFront n text front.Damaged = IsDamaged n text
StandsInFront n text front.Torn = IsTorn text

-- ---- the end

-- `end E` and its sum: the last lines of a record of n entries whose sessions have all ended
abbrev pub end_line : ℕ → List ℕ
end_line n = codes "end " ++ number (numbered n) line_feed

abbrev pub last_lines : ℕ → List ℕ
last_lines n = summed n (end_line n)
