-- What goes to a stream, and what is left of it.
use Rattle.std.specs.Prelude.{◌≡◌, ◌++◌, ◌==◌, ℕ, Bool, List, [], ◌∷◌, Option, Some, None, Result}
use Rattle.std.specs.Prelude.{Ok, Err, if◌then◌else◌, length, option_and_then}
use Rattle.clap.specs.Words.{Text}

-- the bytes after this front; none where it isn't there
abbrev pub bytes_after : (front bytes : List ℕ) → Option (List ℕ)
bytes_after [] bytes = Some bytes
bytes_after (b ∷ front) [] = None
bytes_after (b ∷ front) (c ∷ bytes) = if b == c then bytes_after front bytes else None

-- what contracts see of a stream that was opened by this name, and to which these bytes have gone:
-- how long the name is, the name, and the bytes
abbrev pub named_text : Text → List ℕ → List ℕ
named_text name bytes = (length name ∷ name) ++ bytes

-- What has gone to the stream of this name that has these contents; none where it was opened by
-- another name.
abbrev pub written_to : Text → Option (List ℕ) → Option (List ℕ)
written_to name contents = option_and_then (bytes_after (length name ∷ name)) contents

-- the same where the name is one of a file that may be asked for
abbrev pub written_by : Option Text → Option (List ℕ) → Option (List ℕ)
written_by None contents = contents
written_by (Some name) contents = written_to name contents

-- the same of any of these streams
abbrev pub written_at : {F : Type 0} → (F → Option (List ℕ)) → Option Text → F → Option (List ℕ)
written_at contents name file = written_by name (contents file)

-- what is left of a stream: the name by which it was opened, all that has gone to it, and whether
-- it stands in its place
pub record Closed : Type 0 where
  pub name : Text
  pub bytes : Option (List ℕ)
  pub durable : Bool

abbrev pub closed : Text → Option (List ℕ) → Bool → Closed
closed name bytes durable = record { name = name; bytes = bytes; durable = durable }

-- so much is left of a stream with these contents
abbrev pub IsLeftOf : Option (List ℕ) → (durable : Bool) → Closed → Type 0
IsLeftOf contents durable left =
    (name : Text) (bytes : List ℕ) → written_to name contents ≡ Some bytes
    → left ≡ closed name (Some bytes) durable

-- a front of these bytes stands there
abbrev pub IsFrontOf : List ℕ → Option (List ℕ) → Type 0
IsFrontOf bytes after = (front rest : List ℕ) × (bytes ≡ front ++ rest) × (after ≡ Some front)

-- these bytes stand there; where not all could be written, a front of them
abbrev pub IsWrittenBy : {E : Type 0} → Result Unit E → List ℕ → Option (List ℕ) → Type 0
IsWrittenBy (Ok u) bytes after = after ≡ Some bytes
IsWrittenBy (Err e) bytes after = IsFrontOf bytes after
