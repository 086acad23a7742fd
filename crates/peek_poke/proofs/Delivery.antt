-- The bits of a packet, brought to a reader one by one.
use Rattle.std.proofs.Common.{◌≡◌, ◌<◌, ◌+◌, ℕ, Bool, false, List, [], ◌∷◌, ◌++◌, get_or, length, take, sym, ◌∙◌, subst, Option, None, Some, Result, Ok, ◌⊎◌, inl, inr, ◌↔◌}
use Rattle.std.proofs.lemmas.Bool.{cases_lt}
use Rattle.std.proofs.lemmas.List.{take_more, take_all}
use Rattle.std.specs.Option.{option_to_list}
use Rattle.link_bytes.specs.declared.packet.Packet.{Packet}
use Rattle.link_bytes.specs.declared.fault.LinkFault.{LinkFault}
use Rattle.link_bytes.specs.Line.{packet_bits, IsPacket, AreLineBits}
use Rattle.link_bytes.specs.Reading.{PacketView, begun, HasRead}

-- what is known of the bits of any packet
pub record OnePacket : Type 0 where
  pub before : (packet : Packet) (count : ℕ) → IsPacket packet → count < length (packet_bits packet) → HasRead (take count (packet_bits packet)) []
      (begun (take count (packet_bits packet)))
  pub whole : (packet : Packet) → IsPacket packet → HasRead (packet_bits packet) (packet ∷ []) (begun [])

-- what a reader makes of one more bit
abbrev pub Steps : PacketView → Bool → Result (Option Packet) LinkFault → PacketView → Type 0
Steps old bit result new = (rest left : List Bool) (given : Option Packet) → old ≡ begun rest → AreLineBits (rest ++ bit ∷ []) (option_to_list given) left ↔
    ((result ≡ Ok given) × (new ≡ begun left))

-- a bit of a packet is answered with nothing, or, if it is the last, with the packet
pub answer_of : OnePacket → (packet : Packet) (bits : List Bool) (k : ℕ) (old new : PacketView) (result : Result (Option Packet) LinkFault) → IsPacket packet
    → bits ≡ packet_bits packet → k < length bits → old ≡ begun (take k bits) → Steps old (get_or bits k false) result new
    → ((k + 1 < length bits) × (result ≡ Ok None) × (new ≡ begun (take (k + 1) bits))) ⊎ ((result ≡ Ok (Some packet)) × (new ≡ begun []))
answer_of one packet bits k old new result is e l fed steps =
    let more = take_more bits k false l in
    elim (cases_lt (k + 1) (length bits)) [
      | inl m ↦
          let line = subst (λ (xs : List Bool). AreLineBits (take (k + 1) xs) [] (take (k + 1) xs)) (sym e)
          (one.before packet (k + 1) is (subst (λ (xs : List Bool). k + 1 < length xs) e m)) in
          let quiet = (steps (take k bits) (take (k + 1) bits) None fed).0 (subst (λ (xs : List Bool). AreLineBits xs [] (take (k + 1) bits)) more line) in
          inl (m, quiet.0, quiet.1)
      | inr m ↦
          let whole : take (k + 1) bits ≡ bits = take_all (k + 1) bits m in
          let line = subst (λ (xs : List Bool). AreLineBits xs (packet ∷ []) []) (sym e ∙ sym whole ∙ more) (one.whole packet is) in
          inr ((steps (take k bits) [] (Some packet) fed).0 line)
    ]
