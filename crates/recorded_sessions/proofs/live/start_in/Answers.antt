use Rattle.std.proofs.Common.{Some, ◌∙◌, ap, length, refl, sym, subst}
use Rattle.book_record.specs.Heads.{session_limit}
use Rattle.recorded_sessions.specs.Outcomes.{IsStartError}
use Rattle.recorded_sessions.specs.Records.{head_for}
use Rattle.recorded_sessions.proofs.Started.{unbegun_file, unstarted_file}
use Rattle.recorded_sessions.proofs.live.start_in.Goals as goal

pub returns-in-Err-clause-unstarted : goal.returns-in-Err-clause-unstarted
returns-in-Err-clause-unstarted g c =
    let held = c.args.out.held.items in
    let end = c.not_started in
    let why = subst (IsStartError c.args.resumes (session_limit (length c.args.names.now)) held (head_for c.args.rack c.args.names.now) c.args.rack)
    (sym end.ensures.why) (rw c.as_slice.ensures.value at c.in-Err.ensures.unbegun) in (
      why,
      unbegun_file g.S.Stream.Write.contents g.S.System.received c.args.out.name.now c.args.resumes c.args.names.now held _ end.result.receipt
          c.requires.contents end.ensures.receipt,
    )

pub returns-in-Err-write_front-clause-unstarted : goal.returns-in-Err-write_front-clause-unstarted
returns-in-Err-write_front-clause-unstarted g c =
    let held = c.args.out.held.items in
    let end = c.not_started-in-Err-write_front in
    let why = subst (IsStartError c.args.resumes (session_limit (length c.args.names.now)) held (head_for c.args.rack c.args.names.now) c.args.rack)
    (sym end.ensures.why) c.read_failure.ensures in (
      why,
      unstarted_file g.S.Stream.Write.contents g.S.System.received c.args.out.name.now c.args.resumes c.args.rack c.args.names.now c.in-Ok.begun.book held
          c.as_slice-2.result.now c.in-Ok.begun.head.items c.as_slice-3.result.now c.in-Ok.begun.kept _ end.result.receipt c.as_slice-2.ensures.value
          c.as_slice-3.ensures.value
          c.in-Ok.ensures.on.0
          (rw c.as_slice.ensures.value at c.in-Ok.ensures.begins) (rw c.as_slice.ensures.value at c.in-Ok.ensures.front) c.in-Ok.ensures.new
          (c.in-Err-write_front.ensures.cut c.args.out.name.now (c.requires.contents ∙ ap Some (sym c.as_slice-2.ensures.value))) end.ensures.receipt,
    )

pub returns-in-Ok-write_front-clause-cut : goal.returns-in-Ok-write_front-clause-cut
returns-in-Ok-write_front-clause-cut g c = rw c.as_slice.ensures.value at c.in-Ok.ensures.cut

pub write_front-requires-clause-held : goal.write_front-requires-clause-held
write_front-requires-clause-held g c = λ lifetimes bounds.
    (c.args.out.name.now, c.requires.contents ∙ ap Some (sym c.as_slice-2.ensures.value))

pub returns-in-Ok-write_front-clause-started : goal.returns-in-Ok-write_front-clause-started
returns-in-Ok-write_front-clause-started g c =
    let begun = c.requires.contents ∙ ap Some (sym c.as_slice-2.ensures.value) in
    let front = rw (c.as_slice-2.ensures.value, c.as_slice-3.ensures.value) at (c.in-Ok-write_front.ensures.written c.args.out.name.now begun) in (
      rw c.as_slice.ensures.value at c.in-Ok.ensures.begins,
      c.in-Ok.ensures.on,
      c.in-Ok.ensures.ready,
      refl,
      front ∙ ap Some (rw c.as_slice.ensures.value at c.in-Ok.ensures.front),
    )
