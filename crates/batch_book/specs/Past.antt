-- A list of entries by the last one and those before it.
use Rattle.std.specs.Prelude.{List, [], ◌∷◌, ◌++◌, Option, Some, None}
use Rattle.std.specs.declared.snapshot.Snapshot.{Snapshot}
use Rattle.batch_book.specs.declared.entry.Entry.{Entry}

-- those before the last entry, and then that; none where there is no last one
abbrev pub past : Option (Snapshot (List Entry) × Snapshot Entry) → List Entry
past None = []
past (Some last) = last.0.value ++ last.1.value ∷ []
