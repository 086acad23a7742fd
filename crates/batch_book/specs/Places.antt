-- The places of entries, where what waits and the record have locks of their own.
use Rattle.std.specs.Prelude.{◌≡◌, ℕ, ◌+◌, Bool, true, ◌&&◌, if◌then◌else◌, nat_eq, nat_le, List}
use Rattle.std.specs.Prelude.{[], ◌∷◌, filter, take, Option, Some, None, is_none}
use Rattle.session_lists.specs.Lists.{own_of}
use Rattle.batch_book.specs.declared.entry.Entry.{Entry}
use Rattle.batch_book.specs.History.{IsPrefix}
use Rattle.batch_book.specs.Recording.{Noted, made_in, marked_in}
use Rattle.batch_book.specs.Seats.{SeatState, own}

-- the notes of a session, or of a side
abbrev pub notes_of : ℕ → List Noted → List Noted
notes_of session notes = own_of (λ n. n.session) session notes

-- after so many entries, each has the next place
abbrev pub are_placed : ℕ → List Noted → Bool
are_placed k [] = true
are_placed k (n ∷ ns) =
    if is_none n.made then are_placed k ns else (nat_eq n.place (k + 1) && are_placed (k + 1) ns)

-- the notes up to a place
abbrev pub notes_to : ℕ → List Noted → List Noted
notes_to front notes = filter (λ n. nat_le n.place front) notes

-- no place is after this one
abbrev pub are_up_to : ℕ → List Noted → Bool
are_up_to last [] = true
are_up_to last (n ∷ ns) = nat_le n.place last && are_up_to last ns

abbrev pub lists_or : List Entry × List Entry → Option (List Entry × List Entry)
    → List Entry × List Entry
lists_or before None = before
lists_or before (Some lists) = lists

-- the lists that a side noted last, or else these
abbrev pub last_lists : List Entry × List Entry → List Noted → List Entry × List Entry
last_lists before [] = before
last_lists before (n ∷ ns) = last_lists (lists_or before n.lists) ns

-- the place that it noted last, or else this
abbrev pub last_place : ℕ → List Noted → ℕ
last_place before [] = before
last_place before (n ∷ ns) = last_place (if is_none n.lists then before else n.place) ns

-- what could be told to each session are the first of its entries up to this place
abbrev pub AreMarkedUpTo : ℕ → List Noted → Type 0
AreMarkedUpTo front notes =
    (session : ℕ)
    → IsPrefix (marked_in (notes_of session notes)) (own session (take front (made_in notes)))

-- what could be told to a seat is what was noted of it
abbrev pub LogAgrees : List Noted → SeatState → Type 0
LogAgrees notes seat = seat.log ≡ marked_in (notes_of seat.session notes)
