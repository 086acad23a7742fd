-- One direction of a link, over which packets go bit by bit.
use Rattle.std.specs.Prelude.{ℕ, ◌≡◌, List, [], ◌∷◌, ◌++◌, Bool, Option, Some}
use Rattle.link_bytes.specs.declared.packet.Packet.{Packet}
use Rattle.link_bytes.specs.declared.packet.Packet.TheVariants.{Byte, Ack}
use Rattle.link_bytes.specs.Line.{IsPacket, packet_bits}
use Rattle.link_bytes.specs.Reading.{PacketView, begun}

-- a line: what has come of the next packet, and the bytes of the data packets that it brought
pub record Brought : Type 0 where
  pub reading : PacketView
  pub bytes : List ℕ

-- the byte of a data packet
abbrev pub data_of : Packet → List ℕ
data_of (Byte byte) = byte ∷ []
data_of Ack = []

-- the bits of a packet are read as that packet, and nothing of a next one has come
abbrev pub ReadsPacket : List Bool → Option Packet → PacketView → Type 0
ReadsPacket bits result new = (packet : Packet) → IsPacket packet → bits ≡ packet_bits packet
    → (result ≡ Some packet) × (new ≡ begun [])

-- the same on a line, which has then brought the byte of a data packet
abbrev pub Brings : List Bool → Brought → Option Packet → Brought → Type 0
Brings bits old result new = (packet : Packet) → IsPacket packet → bits ≡ packet_bits packet
    → (result ≡ Some packet)
    × (new ≡ record { reading = begun []; bytes = old.bytes ++ data_of packet })

-- no byte waits for its acknowledge, and nothing of a packet is on either line
abbrev pub AreIdle : ℕ → ℕ → Brought → Brought → Type 0
AreIdle sender receiver line opposite_line =
    (sender ≡ 0) × (receiver ≡ 0) × (line.reading ≡ begun []) × (opposite_line.reading ≡ begun [])
