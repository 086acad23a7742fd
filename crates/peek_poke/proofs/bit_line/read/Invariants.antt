use Rattle.std.proofs.Common.{◌≡◌, ◌<◌, take, length}
use Rattle.link_bytes.specs.declared.packet.Packet.{Packet}
use Rattle.link_bytes.specs.Line.{IsPacket, packet_bits}
use Rattle.link_bytes.specs.Reading.{begun}
use Rattle.peek_poke.proofs.bit_line.read.Given as goal

-- the bits so far have been fed, and they aren't the whole packet
abbrev pub invariant-loop-bit : goal.invariant-loop-bit
invariant-loop-bit l = (packet : Packet) → IsPacket packet → l.bits ≡ packet_bits packet → (l.bit-index < length l.bits)
    × (l.reader ≡ begun (take l.bit-index l.bits))
