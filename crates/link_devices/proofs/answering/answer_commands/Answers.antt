use Rattle.std.proofs.Common.{◌++◌, ◌∷◌, [], refl, arith, length-append}
use Rattle.link_devices.specs.Answering.{begins, goes_on}
use Rattle.byte_streams.proofs.Carrying.{appends_then, appends_none, consumes_then, consumes_none}
use Rattle.link_devices.proofs.answering.answer_commands.Goals as goal

pub loop-before-init : goal.loop-before-init
loop-before-init g c = (
  record {
    came = [];
    replies = [];
    told = [];
    read = consumes_none _;
    ran = begins;
    written = appends_none _;
    beside = appends_none _;
  },
  refl,
)

pub returns-in-Err-hand : goal.returns-in-Err-hand
returns-in-Err-hand g c = record {
  before = c.loop-before.end;
  mid = _;
  wrote = _;
  tells = _;
  byte = c.in-Ok-Some.byte;
  answered = c.loop-before.invariant.0;
  read = rw c.in-Ok-Some.field-0-is at c.in-Ok-Some.ensures.read;
  cut = rw c.loop-before.invariant.1 c.in-Err-hand.ensures.cut;
}

pub loop-before-preserved : goal.loop-before-preserved
loop-before-preserved g c =
    let (i, count) = c.loop-before.invariant in
    let h = c.in_default.ensures.handled in (
      record {
        came = i.came ++ c.in-Ok-Some.byte ∷ [];
        replies = i.replies ++ h.reply;
        told = i.told ++ h.told;
        read = consumes_then _ _ _ _ _ i.read (rw c.in-Ok-Some.field-0-is at c.in-Ok-Some.ensures.read);
        ran = goes_on i.came i.replies i.told c.in-Ok-Some.byte h.reply h.told _ _ i.ran (rw count h.handles);
        written = appends_then _ _ _ _ _ i.written h.written;
        beside = appends_then _ _ _ _ _ i.beside h.beside;
      },
      omega (arith, count, length-append i.came (c.in-Ok-Some.byte ∷ [])),
    )
