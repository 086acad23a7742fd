use Rattle.link_graph.specs.ScheduleText.{spaced}
use Rattle.link_graph.proofs.Digits.{put, spaced_four}
use Rattle.link_graph.proofs.numbers.push_four.Goals as goal

pub returns : goal.returns
returns c = put c.extend_from_slice.result _ c.args.text.now.items _ (spaced c.args.n) c.extend_from_slice.ensures.items
    (rw (c.pair-thousands.ensures.tens, c.pair-thousands.ensures.ones, c.pair-tens.ensures.tens, c.pair-tens.ensures.ones)
    (spaced_four c.args.n c.requires.least c.requires.most))
