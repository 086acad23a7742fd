-- How an exchange is closed.
use Rattle.std.specs.Prelude.{◌≡◌, ℕ, ◌<◌, ◌≤◌, true, List, ◌++◌, length, All, Result, Ok, Err}
use Rattle.crossbar.specs.declared.port.ConfigPort.{Ghosts}
use Rattle.module_memory.specs.Store.{Store}
use Rattle.progress_word.specs.declared.limits.TheConstants.{ALL_PARTS}
use Rattle.batch_book.specs.declared.close.Closed.{Closed}
use Rattle.batch_book.specs.declared.close.SeatMissing.{SeatMissing}
use Rattle.batch_book.specs.declared.entry.Entry.{Entry}
use Rattle.batch_book.specs.Seats.{SeatState, parts_of, entries_of, AskedAgrees, IsRecorded}
use Rattle.batch_book.specs.Exchanges.{Exchange}
use Rattle.batch_book.specs.History.{BookView, AreUnstopped}
use Rattle.batch_book.specs.Replies.{NeverFail}
use Rattle.batch_book.specs.Values.{greatest}

-- No seat is missing: the book was opened with these words, and had these entries before. After
-- them its history has those that were made. What each seat asked is that, filtered to the seat's
-- session, and nothing else was made. What could be told to it are the first of its session's
-- entries that stand where they belong. No seat has seen more of the word than the greatest value
-- of the history. Where port and wires never fail, no run of it stopped. Unless an entry was lost
-- all stand where they belong.
pub record AreClosed {P W : Type 0} (seen : Ghosts P) (sure : W → ℕ → Type 0) (opening : Store)
    (earlier : List Entry) (seats : List SeatState) (book : BookView) : Type 0 where
  pub made : List Entry
  pub standing : List Entry
  pub all_parts : parts_of seats ≡ ALL_PARTS
  pub opened : book.opening ≡ opening
  pub are : book.history ≡ earlier ++ made
  pub stand : book.durable ≡ earlier ++ standing
  pub asked : All (AskedAgrees made) seats
  pub recorded : All (IsRecorded standing) seats
  pub counted : length made ≡ entries_of seats
  pub none_ahead : All (λ s. s.seen ≤ greatest book.history) seats
  pub unstopped : NeverFail seen sure → AreUnstopped book.history
  pub all : book.whole ≡ true → book.durable ≡ book.history

-- A seat is missing just where the seats hold fewer than all parts; then nothing has changed. Else
-- the exchange is closed. `Line` are the wires that a `W` makes, `E` and `Q` what an `H` parts
-- into.
abbrev pub Closes : {L P W G H Line E Q : Type 0} → Ghosts P → (W → ℕ → Type 0) → Store → List Entry
    → Exchange → List SeatState → Result (Closed P W G H) (SeatMissing L P W G H Line E Q)
    → Type 0
Closes seen sure opening earlier x seats (Ok c) =
    AreClosed seen sure opening earlier seats c.book
Closes seen sure opening earlier x seats (Err missing) =
    (parts_of seats < ALL_PARTS) × (missing.exchange ≡ x) × (missing.seats.items ≡ seats)
