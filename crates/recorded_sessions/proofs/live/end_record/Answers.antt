use Rattle.std.proofs.Common.{ap, sym, ◌∙◌}
use Rattle.recorded_sessions.proofs.Held.{has_name}
use Rattle.recorded_sessions.proofs.Told.{grown_closed}
use Rattle.named_files.proofs.Written.{named_written}
use Rattle.book_record.specs.Fronts.{last_lines}
use Rattle.recorded_sessions.proofs.live.end_record.Goals as goal
use Rattle.std.specs.Prelude.{◌++◌, is_some}
use Rattle.command_words.specs.Jobs.{recorded_in}

pub returns : goal.returns
returns g c = λ n text so.
    let name = recorded_in c.args.shared.now in
    let at = rw c.in-Some.is at so in
    let has = sym (has_name c.args.shared.now.record_out _ (sym (ap is_some c.in-Some.is) ∙ c.requires)) in
    let put = c.put_written-receipt in
    rw c.in-Some.is (
      named_written g.S.System.received name (text ++ last_lines n) put.result.0 c.why.result c.write_end-end.result put.result.1 _ has
          (c.write_end-end.ensures.end n name text at.1 at.0) put.ensures.received put.ensures.cut c.why.ensures,
      grown_closed g.S.System.received name put.result.0 _ _ _ c.args.is_whole text has at.0 put.ensures.received c.write_end-end.ensures.grown,
    )
