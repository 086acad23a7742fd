use Rattle.std.proofs.Common.{arith, inl, inr}
use Rattle.peek_poke.proofs.Delivery.{OnePacket, answer_of}
use Rattle.peek_poke.proofs.bit_line.read.Goals as goal

pub returns-in-Ok-Some : goal.returns-in-Ok-Some
returns-in-Ok-Some c = λ packet is e.
    let now = c.loop-bit.invariant packet is e in
    let one : OnePacket = record { before = c.one_packet.ensures.before; whole = c.one_packet.ensures.whole } in
    elim (answer_of one packet c.args.bits.now c.loop-bit.bit-index c.loop-bit.reader c.feed.new.self c.feed.result is e now.0 now.1 c.feed.ensures.step) [
      | inl a ↦ absurd (cc (a.1, c.in-Ok-Some.is, c.in-Ok-Some.field-0-is))
      | inr a ↦ (cc (a.0, c.in-Ok-Some.is, c.in-Ok-Some.field-0-is), a.1)
    ]

pub returns-in-Err : goal.returns-in-Err
returns-in-Err c = λ packet is e.
    let now = c.loop-bit.invariant packet is e in
    let one : OnePacket = record { before = c.one_packet.ensures.before; whole = c.one_packet.ensures.whole } in
    elim (answer_of one packet c.args.bits.now c.loop-bit.bit-index c.loop-bit.reader c.feed.new.self c.feed.result is e now.0 now.1 c.feed.ensures.step) [
      | inl a ↦ absurd (cc (a.1, c.in-Err.is))
      | inr a ↦ absurd (cc (a.0, c.in-Err.is))
    ]

pub loop-bit-preserved : goal.loop-bit-preserved
loop-bit-preserved c = λ packet is e.
    let now = c.loop-bit.invariant packet is e in
    let one : OnePacket = record { before = c.one_packet.ensures.before; whole = c.one_packet.ensures.whole } in
    elim (answer_of one packet c.args.bits.now c.loop-bit.bit-index c.loop-bit.reader c.feed.new.self c.feed.result is e now.0 now.1 c.feed.ensures.step) [
      | inl a ↦ (a.0, a.2)
      | inr a ↦ absurd (cc (a.0, c.in-Ok-None.is, c.in-Ok-None.field-0-is))
    ]

pub returns : goal.returns
returns c = λ packet is e. let now = c.loop-bit.invariant packet is e in absurd (omega arith)
