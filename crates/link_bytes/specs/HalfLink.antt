-- What an end of a link does with a packet that comes: INMOS IMS T414 data sheet, link protocol.
use Rattle.std.specs.Prelude.{◌≡◌, ℕ, Option, Some, None, Result, Ok}
use Rattle.link_bytes.specs.declared.fault.LinkFault.{LinkFault}

-- the byte is handed on, and as many bytes wait as before
abbrev pub HandsOn : ℕ → Result (Option ℕ) LinkFault → ℕ → ℕ → Type 0
HandsOn byte answer old new = (answer ≡ Ok (Some byte)) × (new ≡ old)

-- no byte is handed on, and none waits any more
abbrev pub EndsWait : Result (Option ℕ) LinkFault → ℕ → Type 0
EndsWait answer new = (answer ≡ Ok None) × (new ≡ 0)
