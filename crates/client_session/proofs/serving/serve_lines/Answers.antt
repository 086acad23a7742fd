use Rattle.std.proofs.Common.{None, ap, arith}
use Rattle.std.proofs.lemmas.Result.{err_from_is_err_and}
use Rattle.client_session.proofs.Asking.{gives_none, gives_more, stops_after, stops_here, asks_all, asks_no_more}
use Rattle.client_session.proofs.Listening.{tells_nothing, tells_more, tells_still}
use Rattle.client_session.proofs.Served.{Serving-none, Serving-next, Serving-turn, failed_turn, held_at_end, held_by_bye, no_input, stopped_reading, the_fault, untold_first}
use Rattle.client_session.proofs.Taking.{front_still, none_of}
use Rattle.client_session.proofs.serving.serve_lines.Goals as goal

pub front_of-front-requires-clause-found : goal.front_of-front-requires-clause-found
front_of-front-requires-clause-found g c = front_still c.in_ok-found.found _ _ c.in_ok-found.ensures.found c.next_line.ensures.found

pub loop-found-init : goal.loop-found-init
loop-found-init g c =
    let none = ap (λ h. h.reads) c.new-input.ensures in
    (λ told. Serving-none _ _ _ c.new-input.result _ (ap (λ h. h.pending) c.new-input.ensures) c.requires, gives_none none (omega arith), tells_nothing _)

pub returns-in_err-found : goal.returns-in_err-found
returns-in_err-found g c =
    let p = err_from_is_err_and c.from_residual.result c.from_residual.ensures.1 in
    let e = c.in_err-found.ensures in
    rw (p.1, p.2) record {
      session = λ told. untold_first _ _ _ _ _ _ _ _ _ c.loop-found.input _ _ told (c.loop-found.invariant.0 told) e.err;
      asks = asks_no_more _ _ _ _ _ _ e.err c.loop-found.invariant.1;
      loses = λ is. e.loses (the_fault _ _ is);
      beside = tells_more c.loop-found.invariant.2 c.send_replies_if_due.ensures.beside;
    }

pub returns-in_err-n : goal.returns-in_err-n
returns-in_err-n g c =
    let p = err_from_is_err_and c.from_residual-in_err-n.result c.from_residual-in_err-n.ensures.1 in
    let mid = c.next_line.new.self in
    rw (p.1, p.2) record {
      session = λ told. stopped_reading 0 _ _ _ _ _ _ _ mid _ (Serving-next told (c.loop-found.invariant.0 told) c.in_ok-found.ensures.ok
          c.in_err-n.ensures.takes) c.in_err-n.ensures.err;
      asks = asks_all (stops_after c.loop-found.invariant.1 c.in_err-n.ensures.asks);
      loses = λ is. absurd (no_input _ is);
      beside = tells_more c.loop-found.invariant.2 c.send_replies_if_due.ensures.beside;
    }

pub returns-in_err-ends : goal.returns-in_err-ends
returns-in_err-ends g c =
    let p = err_from_is_err_and c.from_residual-in_err-ends.result c.from_residual-in_err-ends.ensures.1 in
    let mid = c.next_line.new.self in
    let e = c.in_err-ends.ensures in
    rw (p.1, p.2) record {
      session = λ told. failed_turn 0 _ _ _ _ _ _ _ _ _ mid _ (Serving-next told (c.loop-found.invariant.0 told) c.in_ok-found.ensures.ok
          c.in_ok-n.ensures.takes) (omega (arith, c.in_ok-found.ensures.room)) e.err;
      asks = asks_all (stops_after (gives_more c.loop-found.invariant.1 (rw c.in-Some.is at c.in_ok-n.ensures.asks)) e.asks);
      loses = λ is. e.loses (the_fault _ _ is);
      beside = tells_still (tells_more c.loop-found.invariant.2 c.send_replies_if_due.ensures.beside) e.beside;
    }

pub returns-then-ends : goal.returns-then-ends
returns-then-ends g c =
    let mid = c.next_line.new.self in
    let e = c.in_ok-ends.ensures in
    record {
      session = λ told. held_by_bye _ _ _ _ _ _ _ _ mid c.turn.new.input _ _ _ (Serving-next told (c.loop-found.invariant.0 told) c.in_ok-found.ensures.ok
          c.in_ok-n.ensures.takes) (rw c.if-ends.true at e.ok) c.put.ensures;
      asks = asks_all (stops_here None (gives_more (gives_more c.loop-found.invariant.1 (rw c.in-Some.is at c.in_ok-n.ensures.asks)) e.asks) (λ few. few));
      loses = λ is. absurd (cc);
      beside = tells_still (tells_more c.loop-found.invariant.2 c.send_replies_if_due.ensures.beside) e.beside;
    }

pub loop-found-preserved : goal.loop-found-preserved
loop-found-preserved g c =
    let mid = c.next_line.new.self in
    let e = c.in_ok-ends.ensures in (
      λ told. Serving-turn _ _ _ _ _ _ _ _ mid c.turn.new.input _ _ _ (Serving-next told (c.loop-found.invariant.0 told) c.in_ok-found.ensures.ok
          c.in_ok-n.ensures.takes) (rw c.if-ends.false at e.ok) c.put.ensures,
      gives_more (gives_more c.loop-found.invariant.1 (rw c.in-Some.is at c.in_ok-n.ensures.asks)) e.asks,
      tells_still (tells_more c.loop-found.invariant.2 c.send_replies_if_due.ensures.beside) e.beside,
    )

pub returns-in_default : goal.returns-in_default
returns-in_default g c =
    let mid = c.next_line.new.self in
    let none = none_of _ c.in_default.not-Some in
    let end = rw none at c.in_ok-n.ensures.line in
    record {
      session = λ told. held_at_end 0 _ _ _ _ _ _ mid _ (Serving-next told (c.loop-found.invariant.0 told) c.in_ok-found.ensures.ok c.in_ok-n.ensures.takes)
          end.0 end.1;
      asks = asks_all (stops_after c.loop-found.invariant.1 (rw none at c.in_ok-n.ensures.asks));
      loses = λ is. absurd (cc);
      beside = tells_more c.loop-found.invariant.2 c.send_replies_if_due.ensures.beside;
    }
