-- The head of a record: its first line, and the names of the clients. Its form is this project's
-- choice.
use Rattle.std.specs.Prelude.{◌≡◌, ◌≢◌, ℕ, zero, suc, ◌^◌, ◌≤◌, List, [], ◌∷◌, ◌++◌, length, All}
use Rattle.std.specs.Prelude.{AllPairs, codes}
use Rattle.std.specs.Fmt.{decimal}
use Rattle.std.specs.List.{flat_map}
use Rattle.batch.specs.ShapeView.{ShapeView, IsShape}
use Rattle.batch.specs.ShapeText.{shape_text}
use Rattle.batch.specs.Text.{IsNumber, space, line_feed}
use Rattle.batch.specs.declared.limits.TheConstants.{MAX_DIGITS}
use Rattle.batch_book.specs.declared.entry.Entry.{Entry}
use Rattle.book_record.specs.RecordText.{texts}
use Rattle.book_record.specs.Sums.{adler, summed}
use Rattle.client_session.specs.Bytes.{HasNoFeed}
use Rattle.client_session.specs.Replies.{with_feed}
use Rattle.exchange_limits.specs.declared.limits.TheConstants.{MAX_SESSIONS}
use Rattle.line_words.specs.HexWords.{IsWord, hex8}
use Rattle.module_memory.specs.Images.{image_of}
use Rattle.module_memory.specs.Store.{Store}
use Rattle.book_record.specs.Fronts.{last_lines}

-- ---- the head

-- `record-2 MxKxW SUM N`: the form, the shape of the rack, the sum of the image of its opening
-- words, and the number of clients that have names
abbrev pub rack_words : ShapeView → ℕ → ℕ → List ℕ
rack_words shape sum n =
    codes "record-2 " ++ (shape_text shape ++ space ∷ (hex8 sum ++ space ∷ decimal n))

abbrev pub rack_line : ShapeView → ℕ → ℕ → List ℕ
rack_line shape sum n = with_feed (rack_words shape sum n)

-- `client NAME`
abbrev pub client_line : List ℕ → List ℕ
client_line name = codes "client " ++ (name ++ line_feed ∷ [])

-- the first line, and one for each client that has a name, in the order of the sessions' numbers
abbrev pub head_lines : ShapeView → ℕ → List (List ℕ) → List ℕ
head_lines shape sum names = rack_line shape sum (length names) ++ flat_map client_line names

-- the same, and `=SUM`
abbrev pub head_of : ShapeView → ℕ → List (List ℕ) → List ℕ
head_of shape sum names = summed 0 (head_lines shape sum names)

-- a client's name: it isn't empty, and is in one line
abbrev pub IsName : List ℕ → Type 0
IsName name = (name ≢ []) × HasNoFeed name

-- n clients have such names, of which no two are the same; they are 16 at most
pub record AreNames (names : List (List ℕ)) (n : ℕ) : Type 0 where
  pub count : length names ≡ n
  pub few : n ≤ MAX_SESSIONS
  pub each : All IsName names
  pub apart : AllPairs (λ one other. one ≢ other) names

-- The number of each session is below this in a record with this many named clients: each of them
-- has a session, and nobody else. Where none has a name, it has nine digits at most.
abbrev pub session_limit : ℕ → ℕ
session_limit zero = 10 ^ MAX_DIGITS
session_limit (suc clients) = suc clients

-- the text begins with the lines of clients of these names
pub record AreClients (text : List ℕ) (names : List (List ℕ)) (rest : List ℕ) : Type 0 where
  pub each : All IsName names
  pub front : text ≡ flat_map client_line names ++ rest

-- the text begins with the line of no client
abbrev pub BeginsWithNoClient : List ℕ → Type 0
BeginsWithNoClient text =
    (name rest : List ℕ) → IsName name → text ≢ codes "client " ++ (name ++ line_feed ∷ rest)

-- the text begins with no head
abbrev pub BeginsWithNoHead : List ℕ → Type 0
BeginsWithNoHead text =
    (shape : ShapeView) (sum n : ℕ) (names : List (List ℕ)) (rest : List ℕ) → IsShape shape
    → IsWord sum → AreNames names n → text ≢ head_of shape sum names ++ rest

-- the line is the first of no head
abbrev pub IsNoRackLine : List ℕ → Type 0
IsNoRackLine line =
    (shape : ShapeView) (sum n : ℕ) → IsShape shape → IsWord sum → IsNumber n
    → line ≢ rack_words shape sum n

-- the text doesn't begin with the lines of n clients
abbrev pub BeginsWithNoNames : List ℕ → ℕ → Type 0
BeginsWithNoNames text n =
    (names : List (List ℕ)) (rest : List ℕ) → AreNames names n
    → text ≢ flat_map client_line names ++ rest

-- the text begins with the head of a record on a rack that has these words at first, by clients of
-- these names
abbrev pub IsHeadOf : Store → List (List ℕ) → List ℕ → List ℕ → Type 0
IsHeadOf opening names text rest =
    text ≡ head_of opening.shape (adler (image_of opening)) names ++ rest

-- ---- a record

-- the head, by clients of these names on a rack that has these words at first, and these entries
abbrev pub record_of : List (List ℕ) → Store → List Entry → List ℕ
record_of names opening es =
    head_of opening.shape (adler (image_of opening)) names ++ texts 0 es

-- the same of sessions that have all ended: the last lines follow
abbrev pub whole_record : List (List ℕ) → Store → List Entry → List ℕ
whole_record names opening es = record_of names opening es ++ last_lines (length es)
