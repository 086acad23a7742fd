use Rattle.std.proofs.Common.{◌∙◌, Option, subst}
use Rattle.clap.specs.Words.{Text}
use Rattle.command_words.specs.Jobs.{recorded_in}
use Rattle.named_files.specs.Outputs.{IsOpened, is_new}
use Rattle.named_files.specs.Streams.{written_at}
use Rattle.named_files.proofs.Written.{nothing_gone}
use Rattle.recorded_sessions.proofs.Lived.{as_begun, so_far}
use Rattle.recorded_sessions.proofs.Told.{all_told}
use Rattle.recorded_sessions.proofs.live.finish_live.Goals as goal

pub returns-in-Ok-clause-kept : goal.returns-in-Ok-clause-kept
returns-in-Ok-clause-kept g c = λ opening names was left begins over none.
    let contents = written_at g.S.Stream.Write.contents (recorded_in c.args.shared.now) in
    let kept = c.keep_live-receipts.ensures.written names left over.machine (so_far contents names was left c.args.over over) in
    rw c.in-Ok.is (
      kept.0,
      (λ broken. c.keep_live-receipts.ensures.broken (over.whole ∙ broken)),
      c.keep_live-receipts.ensures.lost,
      all_told contents g.S.System.received (recorded_in c.args.shared.now) names was left c.args.over c.keep_live-receipts.result.0.recorded
          c.keep_live-receipts.result.1.recorded over kept.1 kept.0.0,
    )

pub returns-clause-kept : goal.returns-clause-kept
returns-clause-kept g c = λ opening names was left begins over none.
    let contents = g.S.Stream.Write.contents in
    let received = g.S.System.received in
    let shared = c.args.shared.now in
    let opened = subst (λ (n : Option Text). IsOpened contents is_new n c.args.image) c.requires.named c.requires.opened in
    let record_left = as_begun (g.S.System.holds c.args.system.now) contents received shared.record_out opening names was left c.args.over.stream
    c.close_stream.result (rw c.in-Err.is at none) begins c.requires.stream over.text c.close_stream.ensures in
    rw c.in-Err.is (record_left, nothing_gone contents received shared.image_out c.args.image c.close_file.result opened c.close_file.ensures, c.none.ensures)
