use Rattle.std.proofs.Common.{◌≡◌, ◌-◌, ◌*◌, ◌<◌, ◌≤◌, length, arith}
use Rattle.link_graph.specs.declared.link.Link.{Link}
use Rattle.link_graph.specs.Marks.{members}
use Rattle.euler_split.specs.Split.{uses_among}
use Rattle.schedule_certificate.proofs.Levels.{degree_fits}
use Rattle.schedule_certificate.proofs.Widths.{reaches}
use Rattle.schedule_certificate.proofs.degree.degree_of.Goals as goal

pub returns-then-part-saturating_mul-clause-degree : goal.returns-then-part-saturating_mul-clause-degree
returns-then-part-saturating_mul-clause-degree c =
    let low : (link : Link) → uses_among c.args.graph.now c.args.part.now link ≤ c.in-AtMost.most = rw c.in-AtMost.is at c.requires.part.1 in
    let less : c.saturating_sub.result ≡ c.in-AtMost.most - 1 = omega (arith, c.saturating_sub.ensures) in
    let product = rw less at c.saturating_mul.ensures in
    let many : c.args.width * (c.in-AtMost.most - 1) < length c.args.part.now = omega (arith, product, c.if-part-saturating_mul.true) in
    reaches c.args.graph.now c.args.part.now c.args.width c.in-AtMost.most c.requires.part.0 c.requires.width low many

pub returns-else-part-saturating_mul-clause-most : goal.returns-else-part-saturating_mul-clause-most
returns-else-part-saturating_mul-clause-most c =
    let low : (link : Link) → uses_among c.args.graph.now c.args.part.now link ≤ c.in-AtMost.most = rw c.in-AtMost.is at c.requires.part.1 in
    rw c.in-AtMost.is (degree_fits (members c.args.graph.now c.args.part.now) c.count_degree.result c.in-AtMost.most c.count_degree.ensures.degree low)
