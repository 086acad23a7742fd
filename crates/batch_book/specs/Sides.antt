-- What waits and the record, where each has a lock of its own.
use Rattle.std.specs.Prelude.{ℕ, List}
use Rattle.batch_book.specs.declared.entry.Entry.{Entry}
use Rattle.batch_book.specs.declared.limits.TheConstants.{RECORD_SIDE}
use Rattle.batch_book.specs.Recording.{Noted}
use Rattle.batch_book.specs.Places.{last_lists, last_place, notes_of}

-- the lists that a side noted last; at first both are the earlier entries
abbrev pub side_lists : List Entry → List Noted → List Entry × List Entry
side_lists earlier notes = last_lists (earlier, earlier) notes

-- what was noted last of the entries that were taken over to the record
abbrev pub taken_in : List Entry → List Noted → List Entry
taken_in earlier notes = (side_lists earlier (notes_of RECORD_SIDE notes)).0

-- what the record's side noted last of the place up to which all stand where they belong
abbrev pub stood_in : List Noted → ℕ
stood_in notes = last_place 0 (notes_of RECORD_SIDE notes)
