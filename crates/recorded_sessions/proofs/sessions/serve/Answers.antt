use Rattle.std.proofs.Common.{subst, sym}
use Rattle.plan_answers.specs.Refusals.{Printed}
use Rattle.named_files.specs.Contents.{contents_in}
use Rattle.session_answers.specs.Serving.{IsServeAnswer}
use Rattle.recorded_sessions.proofs.sessions.serve.Goals as goal

pub returns-in-Ok-clause-answer : goal.returns-in-Ok-clause-answer
returns-in-Ok-clause-answer g c =
    let files = contents_in c.args.contents.now in
    let served = rw (c.as_bytes-shape.ensures.value, c.as_str.ensures, c.slice_of.ensures, c.as_slice-scripts.ensures.value) at c.in-Ok.ensures in (
      c.in-Ok.field-0.book,
      subst (λ (p : Printed). IsServeAnswer c.args.shared.now.shape files.image files.scripts p c.in-Ok.field-0.book) (sym c.alone.ensures)
          served,
      rw (c.requires.named.0, c.requires.named.1) at c.keep_scripts-receipts.ensures,
    )
