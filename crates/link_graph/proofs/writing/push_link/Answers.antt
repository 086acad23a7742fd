use Rattle.std.proofs.Common.{◌∙◌, [], ◌∷◌, sym}
use Rattle.link_graph.specs.ScheduleText.{busiest_line, text_of}
use Rattle.link_graph.proofs.Digits.{put}
use Rattle.link_graph.proofs.Texts.{spelled_link}
use Rattle.link_graph.proofs.writing.push_link.Goals as goal

pub returns : goal.returns
returns c =
    put c.extend_from_slice.result _ c.args.text.now.items _ (text_of (busiest_line c.args.link ∷ [])) c.extend_from_slice.ensures.items
    (sym (c.as_bytes.ensures.value ∙ c.in_ok-line.ensures.ok ∙ spelled_link c.args.link c.number-end.result [] c.number-end.ensures))
