use Rattle.named_files.specs.Contents.{contents_in}
use Rattle.recorded_sessions.proofs.Held.{as_held}
use Rattle.named_files.proofs.Written.{nothing_gone}
use Rattle.recorded_sessions.proofs.Started.{told_missed, told_unbegun, wrong_rack}
use Rattle.recorded_sessions.proofs.live.start_live.Goals as goal

pub returns-in-Err-clause-unserved : goal.returns-in-Err-clause-unserved
returns-in-Err-clause-unserved g c =
    let holds = g.S.System.holds c.args.system.now in
    let contents = g.S.Stream.Write.contents in
    let received = g.S.System.received in
    let shared = c.args.shared.now in
    let image = (contents_in c.args.contents.now).image in
    record {
      answer = wrong_rack c.refused.result holds shared c.args.names.now image c.in-Err.refusal c.refused.ensures.answer
          (rw (c.as_bytes.ensures.value, c.as_str.ensures, c.slice_of-words.ensures) at c.in-Err.ensures.wrong);
      missed = c.refused.ensures.missed;
      left = (
        as_held holds contents received shared.record_out c.args.names.now c.args.outputs.recorded c.close_file.result c.requires.opened.0
            c.close_file.ensures,
        nothing_gone contents received shared.image_out c.args.outputs.image c.close_file-in-Err.result c.requires.opened.1
            c.close_file-in-Err.ensures,
        c.none.ensures,
      );
    }

pub returns-in-Err-start_on-clause-unserved : goal.returns-in-Err-start_on-clause-unserved
returns-in-Err-start_on-clause-unserved g c =
    let holds = g.S.System.holds c.args.system.now in
    let contents = g.S.Stream.Write.contents in
    let received = g.S.System.received in
    let shared = c.args.shared.now in
    let image = (contents_in c.args.contents.now).image in
    let u = c.in-Err-start_on.ensures.unstarted in
    record {
      answer = told_unbegun c.in-Err-start_on.field-0.why c.start_failure.result holds shared c.args.names.now image c.in-Ok.rack
          (rw (c.as_bytes.ensures.value, c.as_str.ensures, c.slice_of-words.ensures) at c.in-Ok.ensures.rack) u.why c.start_failure.ensures;
      missed = told_missed c.in-Err-start_on.field-0.why c.start_failure.result holds shared c.args.names.now c.in-Ok.rack u.why c.start_failure.ensures;
      left = (
        u.left,
        nothing_gone contents received shared.image_out c.args.outputs.image c.close_file-in-Err-start_on.result c.requires.opened.1
            c.close_file-in-Err-start_on.ensures,
        c.none-in-Err-start_on.ensures,
      );
    }

pub returns-in-Ok-start_on-clause-started : goal.returns-in-Ok-start_on-clause-started
returns-in-Ok-start_on-clause-started g c =
    (c.in-Ok.rack, rw (c.as_bytes.ensures.value, c.as_str.ensures, c.slice_of-words.ensures) at c.in-Ok.ensures.rack, c.in-Ok-start_on.ensures.started)
