use Rattle.std.proofs.lemmas.Result.{on_ok_weaker}
use Rattle.link_graph.specs.ScheduleText.{busiest_line, named_line}
use Rattle.link_graph.proofs.Texts.{two_lines}
use Rattle.link_graph.proofs.writing.push_naming.Goals as goal

pub returns : goal.returns
returns c = rw c.in-Some.is
    (on_ok_weaker c.push_line.result (λ p. two_lines (busiest_line c.in-Some.link) (named_line c.args.transfers.now) _ _ _ p c.in_ok-push_link.ensures)
    c.push_line.ensures)
