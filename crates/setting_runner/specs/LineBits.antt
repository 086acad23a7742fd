-- How many bits words take on the links. INMOS IMS T414 data sheet, link protocol: a byte goes as a
-- data packet of eleven bits, and two bits acknowledge it.
use Rattle.std.specs.Prelude.{ℕ, ◌+◌, ◌*◌}
use Rattle.peek_poke.specs.declared.message.TheConstants.{POKE_BYTES}

-- a word takes the bytes of a poke, or of a peek and its reply, which are as many
abbrev pub bits_of : ℕ → ℕ
bits_of words = (11 + 2) * POKE_BYTES * words
