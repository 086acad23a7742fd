-- What the laws state. Proofs use them; no contract of a call cites them.
use Rattle.std.specs.Prelude.{◌≡◌, ℕ, List, Option}
use Rattle.client_session.specs.declared.command.SessionCommand.{SessionCommand}
use Rattle.client_session.specs.Commands.{Means}

-- a line means one thing
abbrev pub OneMeaning : Type 0
OneMeaning =
    (line : List ℕ) (one other : Option SessionCommand) → Means line one → Means line other
    → one ≡ other
