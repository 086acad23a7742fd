-- What contracts see of an exchange, and of its seats as it is made.
use Rattle.std.specs.Prelude.{◌≡◌, ℕ, ◌+◌, ◌-◌, ◌<◌, ◌==◌, if◌then◌else◌, false, List, [], length}
use Rattle.std.specs.Prelude.{slice_index_or, Some, refl}
use Rattle.std.specs.Coded.{Coded, code_by, coded×, coded_ℕ}
use Rattle.atomic_table.specs.Seated.{TableId, table_id_coded}
use Rattle.progress_word.specs.declared.limits.TheConstants.{ALL_PARTS}
use Rattle.batch.specs.ShapeView.{ShapeView, extent}
use Rattle.batch_book.specs.Seats.{SeatState, parts_of}

-- which exchange it is, by its progress word, and the shape of its rack
pub record Exchange : Type 0 where
  pub word : TableId
  pub shape : ShapeView

abbrev pub exchange_coded : Coded Exchange
exchange_coded =
    code_by (TableId × (ℕ × (ℕ × ℕ)))
    (coded× table_id_coded (coded× coded_ℕ (coded× coded_ℕ coded_ℕ)))
    (λ e. (e.word, (e.shape.modules, (e.shape.blocks, e.shape.words))))
    (λ p. record { word = p.0; shape = extent p.1.0 p.1.1.0 p.1.1.1 }) (λ _. refl)

-- a seat that has asked nothing, and seen where the word began; the first has raised it to that
abbrev pub new_seat : TableId → ℕ → ℕ → ℕ → SeatState
new_seat word start session parts =
    record {
      exchange = Some word;
      session = session;
      asked = [];
      log = [];
      seen = start;
      raised = if session == 0 then start else 0;
      parts = parts;
      broken = false;
    }

-- the parts of each seat: one, and the first seat has those left over as well
abbrev pub parts_at : ℕ → ℕ → ℕ
parts_at sessions i = if i == 0 then ALL_PARTS + 1 - sessions else 1

-- the seats of a new exchange whose word began at this value, one for each session: together they
-- have all parts
pub record AreNew (word : TableId) (start sessions : ℕ) (seats : List SeatState) : Type 0 where
  pub count : length seats ≡ sessions
  pub parts : parts_of seats ≡ ALL_PARTS
  pub each : (i : ℕ) (d : SeatState) → i < sessions
      → slice_index_or seats i d ≡ new_seat word start i (parts_at sessions i)
