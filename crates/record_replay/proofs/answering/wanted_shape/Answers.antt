use Rattle.std.proofs.Common.{◌∙◌, ap}
use Rattle.plan_answers.specs.Lent.{bytes_of}
use Rattle.record_replay.proofs.Heads.{shape_of_head, spelled}
use Rattle.record_replay.proofs.answering.wanted_shape.Goals as goal

pub returns-clause-some : goal.returns-clause-some
returns-clause-some c =
    let head = c.in-Some-read_head.head in
    let text = c.into_bytes.result.items in
    let is = ap (λ v. v.items) c.into_bytes.ensures.value ∙ c.in_ok-text.ensures.ok in
    shape_of_head (bytes_of c.args.shape) c.args.recorded.now head.3.now text head.0 head.1 head.2 (ap bytes_of c.in_default.is)
    c.in-Some-read_head.ensures.some
    (spelled head.0 c.modules-modules.result c.blocks-blocks.result c.words-words.result text is c.modules-modules.ensures.value c.blocks-blocks.ensures.value
    c.words-words.ensures.value)
