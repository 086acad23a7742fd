-- How the reader keeps what has come of a packet.
use Rattle.std.specs.Prelude.{◌<◌, ◌≤◌, ◌^◌, Bool, true, [], ◌∷◌, ◌++◌, Option}
use Rattle.std.specs.Option.{option_to_list}
use Rattle.link_bytes.specs.declared.packet.Packet.{Packet}
use Rattle.link_bytes.specs.declared.packet.TheConstants.{DATA_BITS}
use Rattle.link_bytes.specs.declared.reader.PacketState.{PacketState}
use Rattle.link_bytes.specs.declared.reader.PacketState.TheVariants.{Idle, Started, Data, Failed}
use Rattle.link_bytes.specs.Line.{low_bits, AreLineBits}
use Rattle.link_bytes.specs.Reading.{PacketView, begun, failed}

-- the bits of a packet that has come so far
abbrev pub reading_of : PacketState → PacketView
reading_of Idle = begun []
reading_of Started = begun (true ∷ [])
reading_of (Data count value) = begun (true ∷ true ∷ low_bits value count)
reading_of Failed = failed

-- the data bits that have come make the value
abbrev pub IsStage : PacketState → Type 0
IsStage Idle = Unit {0}
IsStage Started = Unit {0}
IsStage (Data count value) = (count ≤ DATA_BITS) × (value < 2 ^ count)
IsStage Failed = Unit {0}

-- what had come of a packet and the bit are a line with the packet that is given, if one is, and
-- then what has come now
abbrev pub Reads : PacketView → Bool → Option Packet → PacketView → Type 0
Reads (begun rest) bit given (begun left) =
    AreLineBits (rest ++ bit ∷ []) (option_to_list given) left
Reads (begun rest) bit given failed = ⊥
Reads failed bit given new = ⊥

-- the same, of the stage that was and the stage that is
abbrev pub Becomes : PacketState → Bool → Option Packet → PacketState → Type 0
Becomes stage bit given new = Reads (reading_of stage) bit given (reading_of new)
