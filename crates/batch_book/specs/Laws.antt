-- What the laws state. Proofs use them; no contract of a call cites them.
use Rattle.std.specs.Prelude.{◌≡◌, List}
use Rattle.batch_book.specs.declared.entry.Entry.{Entry}
use Rattle.batch_book.specs.Machine.{Machine}
use Rattle.batch_book.specs.History.{HaveOwnPlans, IsReplay}

-- no entry changes the rack's shape
abbrev pub ShapeStays : Type 0
ShapeStays =
    (m : Machine) (es : List Entry) (a : Machine) → IsReplay m es a → a.store.shape ≡ m.store.shape

-- no entry gives a batch another plan
abbrev pub PlansStay : Type 0
PlansStay =
    (m : Machine) (es : List Entry) (n : Machine) → HaveOwnPlans m → IsReplay m es n
    → HaveOwnPlans n
