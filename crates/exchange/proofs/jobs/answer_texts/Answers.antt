use Rattle.named_files.specs.Contents.{contents_in}
use Rattle.exchange.proofs.jobs.answer_texts.Goals as goal

pub returns-in_ok-answer_plan-in-Plan : goal.returns-in_ok-answer_plan-in-Plan
returns-in_ok-answer_plan-in-Plan g c =
    let files = contents_in c.args.contents.now in
    rw c.in-Plan.is (rw c.alone.ensures (rw c.text_of-list.ensures at c.in_ok-answer_plan-in-Plan.ensures.planned))

pub returns-in_ok-answer_check-in-Check : goal.returns-in_ok-answer_check-in-Check
returns-in_ok-answer_check-in-Check g c =
    let files = contents_in c.args.contents.now in
    rw c.in-Check.is (rw c.alone-in-Check.ensures (rw (c.text_of-list.ensures, c.text_of-schedule.ensures) at c.in_ok-answer_check-in-Check.ensures.checked))

pub returns-in_ok-answer_draw-in-Draw : goal.returns-in_ok-answer_draw-in-Draw
returns-in_ok-answer_draw-in-Draw g c =
    let files = contents_in c.args.contents.now in
    rw c.in-Draw.is (rw c.alone-in-Draw.ensures (rw (c.text_of-list.ensures, c.text_of-schedule.ensures, c.bytes_in-range.ensures)
    at c.in_ok-answer_draw-in-Draw.ensures))

pub returns-in_ok-answer_prices-in-Prices : goal.returns-in_ok-answer_prices-in-Prices
returns-in_ok-answer_prices-in-Prices g c =
    let files = contents_in c.args.contents.now in
    rw c.in-Prices.is (rw c.alone-in-Prices.ensures (rw (c.text_of-list.ensures, c.text_of-schedule.ensures) at c.in_ok-answer_prices-in-Prices.ensures))

pub returns-in_ok-answer-in-Switch : goal.returns-in_ok-answer-in-Switch
returns-in_ok-answer-in-Switch g c =
    let files = contents_in c.args.contents.now in
    rw c.in-Switch.is
    (rw c.alone-in-Switch.ensures (rw (c.source_with-source.ensures, c.text_of-list.ensures, c.text_of-schedule.ensures, c.slice_of-wiring.ensures)
    at c.in_ok-answer-in-Switch.ensures))

pub returns-in_ok-answer-in-Orders : goal.returns-in_ok-answer-in-Orders
returns-in_ok-answer-in-Orders g c =
    let files = contents_in c.args.contents.now in
    rw c.in-Orders.is (rw c.alone-in-Orders.ensures (rw (c.source_with-source-in-Orders.ensures, c.text_of-list.ensures, c.text_of-schedule.ensures)
    at c.in_ok-answer-in-Orders.ensures))

pub returns-in_ok-answer_direct-in-Direct : goal.returns-in_ok-answer_direct-in-Direct
returns-in_ok-answer_direct-in-Direct g c =
    let files = contents_in c.args.contents.now in
    rw c.in-Direct.is (rw c.alone-in-Direct.ensures (rw c.text_of-list.ensures at c.in_ok-answer_direct-in-Direct.ensures))

pub returns-in_ok-answer-in-Apply : goal.returns-in_ok-answer-in-Apply
returns-in_ok-answer-in-Apply g c =
    let files = contents_in c.args.contents.now in
    rw c.in-Apply.is (rw c.alone-in-Apply.ensures (rw (c.as_bytes-shape.ensures.value, c.as_str.ensures, c.text_of-list.ensures, c.text_of-schedule.ensures)
    at c.in_ok-answer-in-Apply.ensures))

pub returns-in_ok-answer-in-Run : goal.returns-in_ok-answer-in-Run
returns-in_ok-answer-in-Run g c =
    let files = contents_in c.args.contents.now in
    rw c.in-Run.is
    (rw c.alone-in-Run.ensures
    (rw (
      c.source_with-source-in-Run.ensures,
      c.as_bytes-shape-in-Run.ensures.value,
      c.as_str-in-Run.ensures,
      c.text_of-list.ensures,
      c.text_of-schedule.ensures,
      c.slice_of-image.ensures,
    ) at c.in_ok-answer-in-Run.ensures.ran))

pub returns-in_ok-replayed-in-Replay : goal.returns-in_ok-replayed-in-Replay
returns-in_ok-replayed-in-Replay g c =
    let files = contents_in c.args.contents.now in
    rw c.in-Replay.is
    (rw c.replayed.ensures (
      c.in_ok-replayed-in-Replay.replayed.error,
      c.in_ok-replayed-in-Replay.replayed.torn,
      rw (c.bytes_in-shape.ensures, c.text_of-list.ensures, c.slice_of-image.ensures) at c.in_ok-replayed-in-Replay.ensures,
    ))
