-- A line that is read bit by bit, after each bit. The rules are those of the line; that a reader
-- which met a fault doesn't go on is this project's choice.
use Rattle.std.specs.Prelude.{◌≡◌, ◌<◌, ◌^◌, ℕ, Bool, true, List, [], ◌∷◌, ◌++◌, length, take}
use Rattle.std.specs.Prelude.{Option, Result, Ok, Err}
use Rattle.std.specs.Option.{option_to_list}
use Rattle.link_bytes.specs.declared.packet.TheConstants.{DATA_BITS}
use Rattle.link_bytes.specs.declared.packet.Packet.{Packet}
use Rattle.link_bytes.specs.declared.fault.LinkFault.{LinkFault}
use Rattle.link_bytes.specs.declared.fault.LinkFault.TheVariants.{Framing}
use Rattle.link_bytes.specs.Line.{packet_bits, data_bits, Sign, line_bits, packets_among}
use Rattle.link_bytes.specs.Line.{ArePackets, IsPacketFront, AreLineBits}

-- what is known of a line: the bits of the packet that isn't whole yet, or that a packet had no
-- stop bit
pub data PacketView : Type 0 where
  begun : List Bool → PacketView
  failed : PacketView

-- a data packet with a high bit in place of its stop bit
abbrev pub unstopped_bits : ℕ → List Bool
unstopped_bits b = true ∷ true ∷ data_bits b ++ true ∷ []

-- the bits are a line with these packets, then a data packet without its stop bit, and then
-- whatever comes
pub record IsBrokenLine (bits : List Bool) (packets : List Packet) : Type 0 where
  pub signs : List Sign
  pub byte : ℕ
  pub more : List Bool
  pub whole : bits ≡ line_bits signs ++ (unstopped_bits byte ++ more)
  pub these : packets ≡ packets_among signs
  pub are_packets : ArePackets packets
  pub is_byte : byte < 2 ^ DATA_BITS

-- these bits have given these packets, and this is known of what came after them
abbrev pub HasRead : List Bool → List Packet → PacketView → Type 0
HasRead bits packets (begun rest) = AreLineBits bits packets rest
HasRead bits packets failed = IsBrokenLine bits packets

-- what isn't whole yet is less than a packet
abbrev pub IsPartial : PacketView → Type 0
IsPartial (begun rest) = IsPacketFront rest
IsPartial failed = Unit {0}

-- the bit stands high in place of a stop bit, or an earlier one did
abbrev pub IsFramingFault : PacketView → Bool → Type 0
IsFramingFault (begun rest) bit =
    (b : ℕ) × (b < 2 ^ DATA_BITS) × (rest ++ bit ∷ [] ≡ unstopped_bits b)
IsFramingFault failed bit = Unit {0}

-- the fault of a line, after which nothing more is read
abbrev pub EndsReading : LinkFault → PacketView → Type 0
EndsReading fault reading = (fault ≡ Framing) × (reading ≡ failed)

-- the packet that an answer gives, if it gives one
abbrev pub packets_given : Result (Option Packet) LinkFault → List Packet
packets_given (Ok given) = option_to_list given
packets_given (Err fault) = []

-- the bits can be read
abbrev pub HasReading : List Bool → Type 0
HasReading bits = (packets : List Packet) × (reading : PacketView) × HasRead bits packets reading

-- however the bits are read, they have the same packets, and the same is known of what came after
-- them
abbrev pub HasOneReading : List Bool → Type 0
HasOneReading bits =
    (packets others : List Packet) (reading other : PacketView) → HasRead bits packets reading
    → HasRead bits others other → (packets ≡ others) × (reading ≡ other)

-- so many bits of a packet, and not all of them, have no packet: they are what has come of one
abbrev pub IsBegunAt : Packet → ℕ → Type 0
IsBegunAt packet count =
    count < length (packet_bits packet)
    → HasRead (take count (packet_bits packet)) [] (begun (take count (packet_bits packet)))

-- all bits of a packet have that packet, and nothing has come of another
abbrev pub IsWhole : Packet → Type 0
IsWhole packet = HasRead (packet_bits packet) (packet ∷ []) (begun [])
