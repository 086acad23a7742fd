use Rattle.std.proofs.Common.{Some, ap, length, refl, arith}
use Rattle.std.proofs.lemmas.Result.{err_from_is_err_and}
use Rattle.client_session.specs.declared.fault.ServeFault.TheVariants.{LineTooLong}
use Rattle.client_session.proofs.Asking.{gives_none, gives_more, stops_after, stops_here, asked_at_end}
use Rattle.client_session.proofs.Parts.{no_line}
use Rattle.client_session.proofs.Taking.{TakesIn-more, TakesIn-none, cut_at_end, fault_before, found_at_end, fuel_read, none_of}
use Rattle.client_session.proofs.input.Input.next_line.Goals as goal

pub loop-n-init : goal.loop-n-init
loop-n-init g c = (TakesIn-none _ _, omega arith, gives_none refl c.requires.reads)

pub loop-n-preserved : goal.loop-n-preserved
loop-n-preserved g c =
    let more = c.in_ok-fill.ensures in
    let less = fuel_read c.loop-n.self c.fill.new.self more.room.0 more.room.1 (more.reads c.if-not-branch.false) in (
      TakesIn-more _ _ _ _ _ _ c.loop-n.invariant.0 more.takes,
      omega (arith, less, c.loop-n.invariant.1),
      gives_more c.loop-n.invariant.2 (more.gives c.if-not-branch.false),
    )

pub returns-in_err-fill-clause-takes : goal.returns-in_err-fill-clause-takes
returns-in_err-fill-clause-takes g c = TakesIn-more _ _ _ _ _ _ c.loop-n.invariant.0 c.in_err-fill.ensures.takes

pub returns-then-not-branch-clause-line : goal.returns-then-not-branch-clause-line
returns-then-not-branch-clause-line g c = found_at_end c.at_end.result (g.R.CountedRead.remaining c.fill.new.reader) c.fill.new.self
    (c.in_ok-fill.ensures.end c.if-not-branch.true) c.at_end.ensures.ok

pub returns-then-not-branch-clause-takes : goal.returns-then-not-branch-clause-takes
returns-then-not-branch-clause-takes g c = TakesIn-more _ _ _ _ _ _ c.loop-n.invariant.0 c.in_ok-fill.ensures.takes

pub returns-then-not-branch-clause-err : goal.returns-then-not-branch-clause-err
returns-then-not-branch-clause-err g c =
    let more = c.in_ok-fill.ensures in
    let line = no_line _ (rw (none_of _ c.in_default-line_length.not-Some) at c.line_length.ensures.none)
    (omega (arith, ap length c.pending-in-loop-n.ensures.bytes)) in
    cut_at_end _ c.at_end.result c.loop-n.self c.fill.new.self (more.same c.if-not-branch.true) (more.end c.if-not-branch.true) line c.at_end.ensures.err

pub returns-in_err-fill-clause-err : goal.returns-in_err-fill-clause-err
returns-in_err-fill-clause-err g c =
    let p = err_from_is_err_and c.from_residual.result c.from_residual.ensures.1 in
    let line = no_line _ (rw (none_of _ c.in_default-line_length.not-Some) at c.line_length.ensures.none)
    (omega (arith, ap length c.pending-in-loop-n.ensures.bytes)) in
    rw (p.1, p.2) (fault_before _ _ c.loop-n.self c.fill.new.self line c.in_err-fill.ensures.err)

pub returns-in_err-fill-clause-asks : goal.returns-in_err-fill-clause-asks
returns-in_err-fill-clause-asks g c =
    let p = err_from_is_err_and c.from_residual.result c.from_residual.ensures.1 in
    rw (p.1, p.2) (stops_after c.loop-n.invariant.2 c.in_err-fill.ensures.stops)

pub returns-then-not-branch-clause-asks : goal.returns-then-not-branch-clause-asks
returns-then-not-branch-clause-asks g c =
    let last = c.in_ok-fill.ensures.last c.if-not-branch.true in
    asked_at_end c.at_end.result _ _ _ _ c.fill.new.self (stops_after c.loop-n.invariant.2 last) c.at_end.ensures.ok c.at_end.ensures.err

pub returns-then-pending-gt-LINE_BYTES-clause-asks : goal.returns-then-pending-gt-LINE_BYTES-clause-asks
returns-then-pending-gt-LINE_BYTES-clause-asks g c = stops_here (Some LineTooLong) c.loop-n.invariant.2 (λ few. few)

pub returns-in-Some-line_length-clause-asks : goal.returns-in-Some-line_length-clause-asks
returns-in-Some-line_length-clause-asks g c = c.loop-n.invariant.2
