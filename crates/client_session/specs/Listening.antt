-- What a listener tells beside a session.
use Rattle.std.specs.Prelude.{◌≡◌, ℕ, List, Option, flat_map}
use Rattle.std.specs.Borrow.{GName}
use Rattle.std.specs.Io.KnownBytes.{Appends}
use Rattle.std.specs.List.{AllByRecursion}
use Rattle.refusals.specs.declared.refusal.Refusal.{Refusal}

-- what a listener has told, where that is known, and the ghost name of the `&mut` by which it tells
-- it, where it holds one
pub record ListenerLog : Type 0 where
  pub bytes : Option (List ℕ)
  pub loan : Option GName

-- this was told of a refusal, as may be told of it
pub record Tells (MayTell : Refusal → List ℕ → Type 0) (refusal : Refusal) (old new : ListenerLog)
    : Type 0 where
  pub bytes : List ℕ
  pub may : MayTell refusal bytes
  pub appended : Appends old.bytes new.bytes bytes
  pub loan : new.loan ≡ old.loan

-- a refusal, and what was told of it
pub record Telling : Type 0 where
  pub refusal : Refusal
  pub bytes : List ℕ

-- of some refusals, one after another, this was told, as may be told of each; and nothing else
pub record TellsOfRefusals (MayTell : Refusal → List ℕ → Type 0) (old new : ListenerLog) : Type 0
  where
    pub tellings : List Telling
    pub each : AllByRecursion (λ t. MayTell t.refusal t.bytes) tellings
    pub appended : Appends old.bytes new.bytes (flat_map (λ t. t.bytes) tellings)
    pub loan : new.loan ≡ old.loan
