use Rattle.std.proofs.Common.{◌∙◌, ap}
use Rattle.book_record.specs.Heads.{rack_line}
use Rattle.book_record.specs.Sums.{adler}
use Rattle.book_record.proofs.Heads.{few_number}
use Rattle.record_replay.proofs.Heads.{line_due}
use Rattle.record_replay.proofs.answering.head_due.Goals as goal

pub rack_line-line-requires : goal.rack_line-line-requires
rack_line-line-requires c = few_number c.in-Some.head.2 c.in-Some.ensures.some.2.1.few

pub returns : goal.returns
returns c =
    let rack = c.args.rack.now in
    let head = c.in-Some.head in
    let sum = c.sum_of.ensures ∙ ap adler (c.as_slice.ensures.value ∙ c.in_ok-image.ensures.image) in
    line_due rack c.args.recorded.now head.3.now c.in_ok-from_slice.field-0.items head.0 head.1 head.2 c.in-Some.ensures.some
    (c.in_ok-from_slice.ensures.items ∙ c.as_bytes.ensures.bytes ∙ c.rack_line-line.ensures ∙ ap (λ e. rack_line e c.sum_of.result head.2) c.shape.ensures.value
    ∙ ap (λ s. rack_line rack.shape s head.2) sum)
