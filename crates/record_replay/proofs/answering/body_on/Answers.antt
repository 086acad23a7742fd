use Rattle.std.proofs.Common.{◌∙◌, ap, sym}
use Rattle.module_memory.proofs.Blocks.{all_blocks}
use Rattle.book_record.specs.Sums.{adler}
use Rattle.record_replay.proofs.Heads.{no_record, other_record, same_shape}
use Rattle.record_replay.proofs.answering.body_on.Goals.{then-ne-via-then-ne, then-ne-via-else-ne+then-sum-sum_of}
use Rattle.record_replay.proofs.answering.body_on.Goals as goal

pub returns-in_default-clause-none : goal.returns-in_default-clause-none
returns-in_default-clause-none c = no_record c.args.rack.now c.args.recorded.now (all_blocks c.args.rack.now c.shape-own.ensures.whole).0
    c.in_default.ensures.none

pub returns-then-ne-clause-none : goal.returns-then-ne-clause-none
returns-then-ne-clause-none c =
    let rack = c.args.rack.now in
    let head = c.in-Some.head in
    other_record rack c.args.recorded.now head.3.now head.0 head.1 head.2 (all_blocks rack c.shape-own.ensures.whole).0 c.in-Some.ensures.some
    (elim c.then-ne.branch [
      | then-ne-via-then-ne w ↦ λ same word. same_shape head.0 c.shape-own.result (sym c.ne.ensures ∙ w.if-ne.true) (same ∙ sym c.shape-own.ensures.value)
      | then-ne-via-else-ne+then-sum-sum_of w ↦
          λ same word. w.if-sum-sum_of.true (word ∙ sym (w.sum_of.ensures ∙ ap adler (w.as_slice.ensures.value ∙ c.in_ok-image.ensures.image)))
    ])
