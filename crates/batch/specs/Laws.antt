-- What the laws state. Proofs use them; no contract of a call cites them.
use Rattle.std.specs.Prelude.{◌≡◌, ℕ, List}
use Rattle.batch.specs.declared.fault.BatchFault.{BatchFault}
use Rattle.batch.specs.declared.transfer.Transfer.{Transfer}
use Rattle.batch.specs.ShapeView.{ShapeView, IsShape}
use Rattle.batch.specs.Text.{Denotes}
use Rattle.batch.specs.Faults.{IsFirstFault}
use Rattle.batch.specs.ShapeText.{DenotesShape}
use Rattle.batch.specs.Overlap.{IsApart, IsFirstOverlap}

-- a text denotes at most one batch
abbrev pub OneBatch : Type 0
OneBatch =
    (shape : ShapeView) → IsShape shape → (text : List ℕ) (a b : List Transfer)
    → Denotes shape text a
    → Denotes shape text b → a ≡ b

-- a text that denotes a batch has no first fault
abbrev pub NeverBoth : Type 0
NeverBoth =
    (shape : ShapeView) → IsShape shape → (text : List ℕ) (a : List Transfer) (fault : BatchFault)
    → Denotes shape text a → IsFirstFault shape text fault → ⊥

-- a text has at most one first fault
abbrev pub OneFault : Type 0
OneFault =
    (shape : ShapeView) → IsShape shape → (text : List ℕ) (one other : BatchFault)
    → IsFirstFault shape text one → IsFirstFault shape text other → one ≡ other

-- a text denotes at most one shape
abbrev pub OneShape : Type 0
OneShape = (text : List ℕ) (a b : ShapeView) → DenotesShape text a → DenotesShape text b → a ≡ b

-- where no two transfers are the first that overlap, none overlap
abbrev pub NoneOverlap : Type 0
NoneOverlap = (ts : List Transfer) → ((i j : ℕ) → IsFirstOverlap ts i j → ⊥) → IsApart ts

-- there is one first pair
abbrev pub OneFirstOverlap : Type 0
OneFirstOverlap =
    (ts : List Transfer) (i j k l : ℕ) → IsFirstOverlap ts i j → IsFirstOverlap ts k l
    → (i ≡ k) × (j ≡ l)
