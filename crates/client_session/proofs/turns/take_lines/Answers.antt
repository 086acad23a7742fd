use Rattle.std.proofs.lemmas.Grind.{common_steps}
use Rattle.std.proofs.Common.{◌≡◌, ◌+◌, ◌++◌, take, arith, ap, ◌∙◌, Some, refl}
use Rattle.std.proofs.lemmas.Result.{err_from_is_err_and}
use Rattle.client_session.specs.declared.fault.ServeFault.TheVariants.{NoMemory}
use Rattle.client_session.proofs.Asking.{gives_none, gives_more, stops_after, stops_here, stops_cut}
use Rattle.client_session.proofs.Taking.{none_of}
use Rattle.client_session.proofs.Taken.{LinesTaken-none, LinesTaken-read, LinesTaken-line, pending_at}
use Rattle.client_session.proofs.Turning.{fuel_skip}
use Rattle.client_session.proofs.turns.take_lines.Goals as goal

pub loop-init : goal.loop-init
loop-init g c = (LinesTaken-none _ _ _, omega arith, gives_none refl c.requires)

pub returns-in_err-n-clause-err : goal.returns-in_err-n-clause-err
returns-in_err-n-clause-err g c =
    let p = err_from_is_err_and c.from_residual.result c.from_residual.ensures.1 in
    let got = LinesTaken-read _ _ _ _ _ _ _ _ _ c.loop.invariant.0 c.in_err-n.ensures.takes in
    rw (p.1, p.2) record { n = c.loop.counter; fewer = c.loop-test.true; taken = got; at = pending_at _ _ _ c.in_err-n.ensures.err }

pub returns-in_err-extend_from_slice-clause-err : goal.returns-in_err-extend_from_slice-clause-err
returns-in_err-extend_from_slice-clause-err g c =
    let p = err_from_is_err_and c.from_residual-in_err-extend_from_slice.result c.from_residual-in_err-extend_from_slice.ensures.1 in
    let got = LinesTaken-read _ _ _ _ _ _ _ _ _ c.loop.invariant.0 c.in_ok-n.ensures.takes in
    rw (p.1, p.2) record {
      n = c.loop.counter;
      fewer = c.loop-test.true;
      taken = rw c.in_err-extend_from_slice.ensures.items got;
      at =
          c.in_ok-n.ensures.room.0;
    }

pub loop-preserved : goal.loop-preserved
loop-preserved g c =
    let mid = c.next_line.new.self in
    let k = c.in-Some.n in
    let got = LinesTaken-read _ _ _ _ _ mid _ _ _ c.loop.invariant.0 c.in_ok-n.ensures.takes in
    let line = rw c.in-Some.is at c.in_ok-n.ensures.line in
    let grows = c.in_ok-extend_from_slice.ensures.items ∙ ap (λ l. c.loop.text.items ++ take (k + 1) l) c.pending.ensures.bytes in
    let less = fuel_skip mid c.skip.new.self k c.skip.ensures.pending c.skip.ensures.reads line.0.0 in (
      LinesTaken-line _ _ _ mid _ _ _ _ _ k got line.0 line.1 grows c.skip.ensures.pending,
      omega (arith, less, c.in_ok-n.ensures.fuel, c.loop.invariant.1),
      rw c.skip.ensures.reads (gives_more c.loop.invariant.2 (rw c.in-Some.is at c.in_ok-n.ensures.asks)),
    )

pub returns-clause-ok : goal.returns-clause-ok
returns-clause-ok g c =
    let end : c.args.count ≡ c.loop.counter = omega arith in
    rw end c.loop.invariant.0

pub returns-in_default-clause-err : goal.returns-in_default-clause-err
returns-in_default-clause-err g c = grind (arith, common_steps)

pub returns-in_err-n-clause-asks : goal.returns-in_err-n-clause-asks
returns-in_err-n-clause-asks g c =
    let p = err_from_is_err_and c.from_residual.result c.from_residual.ensures.1 in
    rw (p.1, p.2) (stops_after c.loop.invariant.2 c.in_err-n.ensures.asks)

pub returns-in_err-extend_from_slice-clause-asks : goal.returns-in_err-extend_from_slice-clause-asks
returns-in_err-extend_from_slice-clause-asks g c =
    let p = err_from_is_err_and c.from_residual-in_err-extend_from_slice.result c.from_residual-in_err-extend_from_slice.ensures.1 in
    let got = rw c.in-Some.is at c.in_ok-n.ensures.asks in
    rw (p.1, p.2) (stops_here (Some NoMemory) (gives_more c.loop.invariant.2 got) (λ few. few))

pub returns-in_default-clause-asks : goal.returns-in_default-clause-asks
returns-in_default-clause-asks g c =
    let end = rw (none_of _ c.in_default.not-Some) at c.in_ok-n.ensures.asks in
    stops_cut (stops_after c.loop.invariant.2 end)

pub returns-clause-asks : goal.returns-clause-asks
returns-clause-asks g c = c.loop.invariant.2
