-- What has been read and not yet taken, and how a line stands in it.
use Rattle.std.specs.Prelude.{◌≡◌, ◌≢◌, ℕ, ◌+◌, ◌-◌, ◌*◌, ◌<◌, ◌≤◌, List, ◌++◌, length, take}
use Rattle.std.specs.Prelude.{slice_index, Option}
use Rattle.std.specs.List.{All}
use Rattle.std.specs.Io.KnownBytes.{Consumes}
use Rattle.batch.specs.Text.{line_feed}
use Rattle.client_session.specs.declared.limits.TheConstants.{INPUT_BYTES, LINE_BYTES, MAX_READS}

-- bytes that were read and stand in no line yet, and how often the reader was asked
pub record PendingInput : Type 0 where
  pub pending : List ℕ
  pub reads : ℕ

abbrev pub HasNoFeed : List ℕ → Type 0
HasNoFeed bytes = All (λ b. b ≢ line_feed) bytes

-- no line feed, and no more bytes than a line may have
abbrev pub IsSessionLine : List ℕ → Type 0
IsSessionLine line = HasNoFeed line × (length line ≤ LINE_BYTES)

-- a line of n bytes stands in front, and its line feed
abbrev pub HasLine : List ℕ → ℕ → Type 0
HasLine bytes n = (n < length bytes) × (slice_index bytes n ≡ line_feed) × HasNoFeed (take n bytes)

-- no byte is lost: what was pending, and what the reader gave, is pending now
pub record TakesIn (before after : Option (List ℕ)) (old new : PendingInput) : Type 0 where
  pub bytes : List ℕ
  pub consumed : Consumes before after bytes
  pub kept : old.pending ++ bytes ≡ new.pending

-- more than the bytes that may still come, by as many as a read may give, with those that are
-- pending
abbrev pub fuel : PendingInput → ℕ
fuel h = (INPUT_BYTES + 1) * (MAX_READS - h.reads) + length h.pending
