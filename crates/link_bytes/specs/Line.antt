-- A line of a link as a list of bits, and the packets on it: INMOS IMS T414 data sheet, link
-- protocol.
-- A line is idle bits, data packets and acknowledges one after another; the last packet may not be
-- whole yet.
use Rattle.std.specs.Prelude.{◌≡◌, ◌==◌, ◌<◌, ◌^◌, ℕ, Bool, true, false, List, [], ◌∷◌, ◌++◌}
use Rattle.std.specs.Prelude.{length, take, map}
use Rattle.std.specs.Int.{bit_at}
use Rattle.std.specs.List.{flat_map, range_with_len, AllByRecursion}
use Rattle.link_bytes.specs.declared.packet.TheConstants.{DATA_BITS}
use Rattle.link_bytes.specs.declared.packet.Packet.{Packet}
use Rattle.link_bytes.specs.declared.packet.Packet.TheVariants.{Byte, Ack}

-- the low bits of a number, this many, the least significant first
abbrev pub low_bits : ℕ → ℕ → List Bool
low_bits n count = map (λ k. bit_at n k == 1) (range_with_len 0 count)

-- the data bits of a byte
unfoldable pub data_bits : ℕ → List Bool
data_bits b = low_bits b DATA_BITS

-- a data packet is a high start bit, a one bit, the data bits and a low stop bit; an acknowledge is
-- a high start bit and a low stop bit
abbrev pub packet_bits : Packet → List Bool
packet_bits (Byte b) = true ∷ true ∷ data_bits b ++ false ∷ []
packet_bits Ack = true ∷ false ∷ []

-- what a data packet carries is a byte
abbrev pub IsPacket : Packet → Type 0
IsPacket (Byte b) = b < 2 ^ DATA_BITS
IsPacket Ack = Unit {0}

-- each is a packet
abbrev pub ArePackets : List Packet → Type 0
ArePackets packets = AllByRecursion IsPacket packets

-- what stands on a line: nothing for the time of one bit, or a packet
pub data Sign : Type 0 where
  idle : Sign
  sent : Packet → Sign

-- an idle line is low
abbrev pub sign_bits : Sign → List Bool
sign_bits idle = false ∷ []
sign_bits (sent packet) = packet_bits packet

-- the bits of signs, one after another
abbrev pub line_bits : List Sign → List Bool
line_bits signs = flat_map sign_bits signs

-- the packet of a sign, if it has one
abbrev pub sign_packets : Sign → List Packet
sign_packets idle = []
sign_packets (sent packet) = packet ∷ []

-- the packets among signs, in order
abbrev pub packets_among : List Sign → List Packet
packets_among signs = flat_map sign_packets signs

-- less than a whole packet: the first bits of one, and not all of them
pub record IsPacketFront (rest : List Bool) : Type 0 where
  pub packet : Packet
  pub is_packet : IsPacket packet
  pub count : ℕ
  pub less : count < length (packet_bits packet)
  pub first : rest ≡ take count (packet_bits packet)

-- the bits are a line with these packets, and then less than a whole packet
pub record AreLineBits (bits : List Bool) (packets : List Packet) (rest : List Bool) : Type 0 where
  pub signs : List Sign
  pub whole : bits ≡ line_bits signs ++ rest
  pub these : packets ≡ packets_among signs
  pub are_packets : ArePackets packets
  pub partial : IsPacketFront rest
