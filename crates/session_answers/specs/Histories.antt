-- The history of an exchange, and the parts of it that its sessions have.
use Rattle.std.specs.Prelude.{◌≡◌, ℕ, ◌≤◌, if◌then◌else◌, Bool, true, false, List, ◌++◌, length}
use Rattle.std.specs.Prelude.{All, sum_by}
use Rattle.module_memory.specs.Store.{Store}
use Rattle.batch_book.specs.declared.entry.Entry.{Entry}
use Rattle.batch_book.specs.History.{BookView, AreUnstopped, IsReplay, IsPrefix}
use Rattle.batch_book.specs.Machine.{opened}
use Rattle.batch_book.specs.Seats.{SeatState, own}
use Rattle.batch_book.specs.Values.{greatest}
use Rattle.plan_answers.specs.declared.limits.TheConstants.{DONE, REFUSED}
use Rattle.plan_answers.specs.Refusals.{Printed}

-- what a session has of a history: its number, the entries of what it asked, the first of these,
-- which could be told to it, and how far it saw the runs come
pub record Part : Type 0 where
  pub session : ℕ
  pub asked : List Entry
  pub log : List Entry
  pub seen : ℕ

-- the part of the session that had this seat
abbrev pub part_of : SeatState → Part
part_of seat =
    record { session = seat.session; asked = seat.asked; log = seat.log; seen = seat.seen }

-- as many entries were made as these parts asked
abbrev pub HasAllEntries : List Part → List Entry → Type 0
HasAllEntries parts made = length made ≡ sum_by (λ p. length p.asked) parts

-- what each part asked are the entries of its session
abbrev pub AreParts : List Part → List Entry → Type 0
AreParts parts made = All (λ p. p.asked ≡ own p.session made) parts

-- what could be told to each part are the first entries of its session that stand where they belong
abbrev pub AreRecorded : List Part → List Entry → Type 0
AreRecorded parts standing = All (λ p. IsPrefix p.log (own p.session standing)) parts

-- The sessions have one history, after what the book had earlier, when it was opened with this
-- store. What they asked is in this book: just their entries, those of each session in its order.
-- It leads to the book's machine. No run of it stopped, and no session saw the runs come further
-- than it tells. The first of the entries stand where they belong, and only of these was any told.
-- All of them stand there where the book is whole. It is whole unless its kind of history may lose
-- an entry.
pub record HaveOneHistory (loses : Bool) (opening : Store) (earlier : List Entry)
    (parts : List Part) (book : BookView) : Type 0 where
  pub made : List Entry
  pub standing : List Entry
  pub is_opening : book.opening ≡ opening
  pub replay : IsReplay (opened opening) book.history book.machine
  pub are : book.history ≡ earlier ++ made
  pub stand : book.durable ≡ earlier ++ standing
  pub front : IsPrefix book.durable book.history
  pub counted : HasAllEntries parts made
  pub are_parts : AreParts parts made
  pub recorded : AreRecorded parts standing
  pub unstopped : AreUnstopped book.history
  pub seen : All (λ p. p.seen ≤ greatest book.history) parts
  pub whole : book.whole ≡ true → book.durable ≡ book.history
  pub lost : book.whole ≡ false → loses ≡ true

-- the status where a fault ended one of the sessions, or none
abbrev pub status_at : Bool → ℕ
status_at failed = if failed then REFUSED else DONE

-- The sessions with these parts were on an exchange over a book that was opened with this store and
-- had these entries, and this text is printed of them. The exchange's book is left, and its history
-- is theirs.
pub record IsClosing (loses : Bool) (opening : Store) (earlier : List Entry) (parts : List Part)
    (text : List ℕ) (failed : Bool) (printed : Printed) (left : BookView) : Type 0 where
  pub one : HaveOneHistory loses opening earlier parts left
  pub prints : printed.text ≡ text
  pub status : printed.status ≡ status_at failed
