-- What an exchange is named by.
use Rattle.std.specs.Prelude.{◌≡◌, ℕ, true, List, []}
use Rattle.atomic_table.specs.Seated.{TableId}
use Rattle.progress_word.specs.declared.limits.TheConstants.{ALL_PARTS}
use Rattle.batch.specs.ShapeView.{extent}
use Rattle.module_memory.specs.Store.{Store}
use Rattle.batch_book.specs.declared.entry.Entry.{Entry}
use Rattle.batch_book.specs.declared.naming.ExchangeBlank.{ExchangeBlank}
use Rattle.batch_book.specs.History.{BookView}

-- the words of no exchange
abbrev pub no_words : Store
no_words = record { shape = extent 0 0 0; blocks = [] }

-- The blank, and the words and the history of the book, are those that an exchange is named by. Its
-- ledger has all parts, and each entry of the history stands where it belongs.
pub record IsNamed (ledger ledger_parts : ℕ) (table : TableId) (words : Store)
    (earlier : List Entry) (blank : ExchangeBlank) (book : BookView) : Type 0 where
  pub name : blank.ledger.name ≡ ledger
  pub parts : blank.ledger.parts ≡ ledger_parts
  pub all_parts : blank.ledger.parts ≡ ALL_PARTS
  pub history : blank.history ≡ table
  pub opening : book.opening ≡ words
  pub entries : book.history ≡ earlier
  pub stand : book.durable ≡ earlier
  pub whole : book.whole ≡ true
