use Rattle.std.proofs.Common.{◌∙◌, drop, sym, take}
use Rattle.std.proofs.lemmas.List.{take-append-drop, take_all}
use Rattle.byte_streams.proofs.Carrying.{appends_kept}
use Rattle.switch_driver.proofs.Streams.{carried_none, sent_more}
use Rattle.switch_driver.proofs.stream.send.Goals as goal

pub loop-byte-init : goal.loop-byte-init
loop-byte-init g c = carried_none _ _ _ _

pub loop-byte-preserved : goal.loop-byte-preserved
loop-byte-preserved g c =
    sent_more _ _ c.args.chip (take c.write-number.result c.write-number.new.out) c.loop-byte.byte-index _ _ _ _ _ _ _ c.loop-byte-test.true
    c.loop-byte.invariant c.in_default.ensures.went c.add.ensures

pub returns-in-Err-clause-cut : goal.returns-in-Err-clause-cut
returns-in-Err-clause-cut g c =
    let so_far = c.loop-byte.invariant in
    let i = c.loop-byte.byte-index in
    let bytes = take c.write-number.result c.write-number.new.out in
    record {
      front = take i bytes;
      left = drop i bytes;
      bytes_are = sym c.write-number.ensures.bytes ∙ sym (take-append-drop i bytes);
      carried = record { written = appends_kept _ _ _ _ so_far.written c.in-Err.ensures.kept; read = so_far.read; noted = so_far.noted };
    }

pub returns-clause-went : goal.returns-clause-went
returns-clause-went g c = rw (take_all _ _ c.loop-byte-test.false, c.write-number.ensures.bytes) at c.loop-byte.invariant
