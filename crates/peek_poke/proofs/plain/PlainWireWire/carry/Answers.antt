use Rattle.std.proofs.Common.{rules, ◌≡◌, ◌++◌, ◌∙◌, ◌∷◌, List, ℕ, [], ap, sym}
use Rattle.peek_poke.specs.Bringing.{Brought}
use Rattle.link_bytes.specs.declared.packet.Packet.TheVariants.{Ack, Byte}
use Rattle.link_bytes.specs.Line.{packet_bits}
use Rattle.peek_poke.proofs.plain.PlainWireWire.carry.Goals as goal
use Rattle.peek_poke.proofs.plain.PlainWireWire.carry.Goals.{in_default-take-via-in-Ok+in_default, in_default-take-via-in_default, in_default-take-2-via-in-Ok+in_default}
use Rattle.peek_poke.proofs.plain.PlainWireWire.carry.Goals.{in_default-take-2-via-in_default}

pub unreachable-requires-in_default-bring : goal.unreachable-requires-in_default-bring
unreachable-requires-in_default-bring c =
    let sent = c.send.ensures.sent c.self.invariant.0 in
    let bits : c.in-Ok.bits ≡ packet_bits (Byte c.args.byte) = cc (sent, c.in-Ok.is) in
    let read = c.bring.ensures (Byte c.args.byte) c.ranges.byte.fits bits in
    cc (read.0, c.in_default-bring.is)

pub unreachable-requires-in_default-take : goal.unreachable-requires-in_default-take
unreachable-requires-in_default-take c =
    let sent = c.send.ensures.sent c.self.invariant.0 in
    let bits : c.in-Ok.bits ≡ packet_bits (Byte c.args.byte) = cc (sent, c.in-Ok.is) in
    let read = c.bring.ensures (Byte c.args.byte) c.ranges.byte.fits bits in
    let packet : c.in-Some.packet ≡ Byte c.args.byte = cc (read.0, c.in-Some.is) in
    let taken = (c.take.ensures.byte c.args.byte packet).0 in
    elim c.in_default-take.branch [ in_default-take-via-in-Ok+in_default w ↦ cc taken | in_default-take-via-in_default w ↦ cc taken ]

pub unreachable-requires-in_default-bring-2 : goal.unreachable-requires-in_default-bring-2
unreachable-requires-in_default-bring-2 c =
    let read = c.bring-2.ensures Ack tt (sym c.acknowledge.ensures) in
    cc (read.0, c.in_default-bring-2.is)

pub unreachable-requires-in_default-take-2 : goal.unreachable-requires-in_default-take-2
unreachable-requires-in_default-take-2 c =
    let read = c.bring-2.ensures Ack tt (sym c.acknowledge.ensures) in
    let packet : c.in-Some-bring.acknowledge ≡ Ack = cc (read.0, c.in-Some-bring.is) in
    let taken = (c.take-2.ensures.ack packet c.send.ensures.waits).0 in
    elim c.in_default-take-2.branch [ in_default-take-2-via-in-Ok+in_default w ↦ cc taken | in_default-take-2-via-in_default w ↦ cc taken ]

pub invariant_of-self : goal.invariant_of-self
invariant_of-self c =
    let sent = c.send.ensures.sent c.self.invariant.0 in
    let bits : c.in-Ok.bits ≡ packet_bits (Byte c.args.byte) = cc (sent, c.in-Ok.is) in
    let read = c.bring.ensures (Byte c.args.byte) c.ranges.byte.fits bits in
    let packet : c.in-Some.packet ≡ Byte c.args.byte = cc (read.0, c.in-Some.is) in
    let same = (c.take.ensures.byte c.args.byte packet).1 in
    let answer = c.bring-2.ensures Ack tt (sym c.acknowledge.ensures) in
    let acknowledge : c.in-Some-bring.acknowledge ≡ Ack = cc (answer.0, c.in-Some-bring.is) in (
      (c.take-2.ensures.ack acknowledge c.send.ensures.waits).1,
      cc (same, c.self.invariant.1),
      ap (λ (l : Brought). l.reading) read.1,
      ap (λ (l : Brought). l.reading) answer.1,
    )

pub returns-clause-arrived : goal.returns-clause-arrived
returns-clause-arrived c =
    let sent = c.send.ensures.sent c.self.invariant.0 in
    let bits : c.in-Ok.bits ≡ packet_bits (Byte c.args.byte) = cc (sent, c.in-Ok.is) in
    let read = c.bring.ensures (Byte c.args.byte) c.ranges.byte.fits bits in
    let packet : c.in-Some.packet ≡ Byte c.args.byte = cc (read.0, c.in-Some.is) in
    let taken = (c.take.ensures.byte c.args.byte packet).0 in
    cc (taken, c.in-Ok-Some.is, c.in-Ok-Some.field-0-is)

pub returns-clause-added : goal.returns-clause-added
returns-clause-added c =
    let sent = c.send.ensures.sent c.self.invariant.0 in
    let bits : c.in-Ok.bits ≡ packet_bits (Byte c.args.byte) = cc (sent, c.in-Ok.is) in
    let read = c.bring.ensures (Byte c.args.byte) c.ranges.byte.fits bits in
    let grown : c.bring.new.self.bytes ≡ c.args.self.now ++ c.args.byte ∷ [] = ap (λ (l : Brought). l.bytes) read.1
    ∙ ap (λ (xs : List ℕ). xs ++ c.args.byte ∷ []) c.self.view_is in
    search rules

pub returns-clause-sure : goal.returns-clause-sure
returns-clause-sure c = search rules

pub returns-clause-fault : goal.returns-clause-fault
returns-clause-fault c = search rules

pub returns-clause-kept : goal.returns-clause-kept
returns-clause-kept c = search rules
