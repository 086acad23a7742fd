-- Which refusal one of the book is, and one of a run.
use Rattle.setting_runner.specs.declared.outcome.RunRefusal.{RunRefusal}
use Rattle.setting_runner.specs.declared.outcome.RunRefusal.TheVariants as run
use Rattle.batch_book.specs.declared.refusal.BookRefusal.{BookRefusal}
use Rattle.batch_book.specs.declared.refusal.BookRefusal.TheVariants as book
use Rattle.refusals.specs.declared.refusal.Refusal.{Refusal}
use Rattle.refusals.specs.declared.refusal.Refusal.TheVariants as refusal

-- that of a call which the book refused
abbrev pub of_book : BookRefusal → Refusal
of_book book.HistoryFull = refusal.HistoryFull
of_book book.BookFull = refusal.BookFull
of_book book.Unknown = refusal.Unknown
of_book book.Unplanned = refusal.Unplanned
of_book book.Stranger = refusal.Stranger
of_book book.Already = refusal.Already
of_book (book.Memory fault) = refusal.Memory fault
of_book book.NoMemory = refusal.NoMemory

-- that of a run which was refused
abbrev pub of_run : RunRefusal → Refusal
of_run (run.Overlap i j) = refusal.Overlap i j
of_run run.Shape = refusal.Shape
of_run run.NoMemory = refusal.NoMemory
