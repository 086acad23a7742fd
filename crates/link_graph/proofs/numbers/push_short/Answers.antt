use Rattle.link_graph.specs.ScheduleText.{spaced}
use Rattle.link_graph.proofs.Digits.{put, spaced_one, spaced_two, spaced_three}
use Rattle.link_graph.proofs.numbers.push_short.Goals as goal

pub returns-then-n-lt10 : goal.returns-then-n-lt10
returns-then-n-lt10 c = put c.extend_from_slice.result _ c.args.text.now.items _ (spaced c.args.n) c.extend_from_slice.ensures.items
    (rw (c.pair-tens.ensures.ones) (spaced_one c.args.n c.if-n-lt10.true))

pub returns-then-n-lt100 : goal.returns-then-n-lt100
returns-then-n-lt100 c = put c.extend_from_slice-then-n-lt100.result _ c.args.text.now.items _ (spaced c.args.n) c.extend_from_slice-then-n-lt100.ensures.items
    (rw (c.pair-tens.ensures.ones, c.pair-tens.ensures.tens) (spaced_two c.args.n c.if-n-lt10.false c.if-n-lt100.true))

pub returns : goal.returns
returns c = put c.extend_from_slice-2.result _ c.args.text.now.items _ (spaced c.args.n) c.extend_from_slice-2.ensures.items
    (rw (c.pair-tens.ensures.ones, c.pair-tens.ensures.tens, c.digit-hundreds.ensures) (spaced_three c.args.n c.if-n-lt100.false c.requires))
