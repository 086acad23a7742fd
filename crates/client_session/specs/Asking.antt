-- How often a reader was asked, where contracts know that.
use Rattle.std.specs.Prelude.{◌≡◌, ℕ, ◌+◌, ◌≤◌, Option, Some, None, Result, Ok, Err}
use Rattle.client_session.specs.declared.limits.TheConstants.{MAX_READS}
use Rattle.client_session.specs.declared.fault.ServeFault.{ServeFault}
use Rattle.client_session.specs.declared.fault.ServeFault.TheVariants.{Turns}

-- a count that is known has risen by n
abbrev pub RisesBy : Option ℕ → Option ℕ → ℕ → Type 0
RisesBy None after n = Unit {0}
RisesBy (Some k) None n = ⊥
RisesBy (Some k) (Some l) n = l ≡ k + n

-- so many reads are the limit, where a session ended by `Turns`; else they are no more than that
abbrev pub IsWithinLimit : Option ServeFault → ℕ → Type 0
IsWithinLimit (Some Turns) reads = reads ≡ MAX_READS
IsWithinLimit fault reads = reads ≤ MAX_READS

-- in a session that ended so the reader was asked so often
pub record AsksWithinLimit (before after : Option ℕ) (fault : Option ServeFault) : Type 0 where
  pub asks : ℕ
  pub counted : RisesBy before after asks
  pub within : IsWithinLimit fault asks

-- the same of the rest of a session, after so many reads
pub record StopsAsking (before after : Option ℕ) (reads : ℕ)
    (fault : Option ServeFault) : Type 0 where
  pub asks : ℕ
  pub counted : RisesBy before after asks
  pub within : IsWithinLimit fault (reads + asks)

-- the reader gave bytes each time that it was asked, or was interrupted by a signal: as many more
-- reads are counted, and all of these may be made
pub record GivesEachTime (before after : Option ℕ) (old new : ℕ) : Type 0 where
  pub asks : ℕ
  pub counted : RisesBy before after asks
  pub all : new ≡ old + asks
  pub few : new ≤ MAX_READS

-- it did so, or that was all
abbrev pub GivesOrStops : {T : Type 0} → Option ℕ → Option ℕ → (old new : ℕ) → Result T ServeFault
    → Type 0
GivesOrStops before after old new (Ok x) = GivesEachTime before after old new
GivesOrStops before after old new (Err fault) = StopsAsking before after old (Some fault)
