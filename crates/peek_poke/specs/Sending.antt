-- How a message goes over a wire to an answering end, byte by byte.
use Rattle.std.specs.Prelude.{ℕ, ◌≡◌, ◌<◌, List, ◌++◌, length, take}
use Rattle.peek_poke.specs.Messages.{Pending}

-- only a proper front of the bytes has come after those before
abbrev pub IsCut : List ℕ → List ℕ → List ℕ → Type 0
IsCut bytes old new = (count : ℕ) × (count < length bytes) × (new ≡ old ++ take count bytes)

-- a wire that failed: it carried a proper front of a message and its reply, and what is of the
-- message in this was handed to the answering end
pub record IsBrokenOff {W : Type 0} (carried : W → List ℕ) (message reply : List ℕ)
    (wire wire_then : W) (end end_then : Pending) : Type 0 where
  pub count : ℕ
  pub proper : count < length (message ++ reply)
  pub carries : carried wire_then ≡ carried wire ++ take count (message ++ reply)
  pub takes : end_then.taken ≡ end.taken ++ take count message
