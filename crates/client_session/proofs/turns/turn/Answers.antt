use Rattle.std.proofs.Common.{Some, []}
use Rattle.std.proofs.lemmas.Result.{err_from_is_err_and}
use Rattle.client_session.specs.declared.fault.ServeFault.TheVariants.{Record}
use Rattle.client_session.proofs.Asking.{gives_none, stops_here}
use Rattle.client_session.proofs.Turning.{alone_lost, alone_taken, fuel_skip}
use Rattle.client_session.proofs.turns.turn.Goals as goal

pub returns-in_ok-answer-in-None-clause-ok : goal.returns-in_ok-answer-in-None-clause-ok
returns-in_ok-answer-in-None-clause-ok g c =
    alone_taken _ c.args.input.now c.skip.new.self _ _ c.args.front.length c.args.front.command _ _ c.requires.found.0 c.requires.found.1 c.requires.found.2
    c.in-None.ensures c.skip.ensures.pending (λ text. rw c.in_ok-answer-in-None.was at c.answer.ensures.done text) c.ends.ensures

pub returns-in_ok-answer-in-None-clause-fuel : goal.returns-in_ok-answer-in-None-clause-fuel
returns-in_ok-answer-in-None-clause-fuel g c = fuel_skip c.args.input.now c.skip.new.self c.args.front.length c.skip.ensures.pending c.skip.ensures.reads
    c.requires.found.0.0

pub returns-in_ok-answer-in-None-clause-asks : goal.returns-in_ok-answer-in-None-clause-asks
returns-in_ok-answer-in-None-clause-asks g c = gives_none c.skip.ensures.reads c.requires.reads

pub returns-in_err-answer-in-None-clause-err : goal.returns-in_err-answer-in-None-clause-err
returns-in_err-answer-in-None-clause-err g c =
    let p = err_from_is_err_and c.from_residual-in_err-answer-in-None.result c.from_residual-in_err-answer-in-None.ensures.1 in
    rw (p.1, p.2) (alone_lost _ _ c.args.input.now c.skip.new.self _ _ c.args.front.length c.args.front.command c.requires.found.0 c.requires.found.1
    c.requires.found.2 c.in-None.ensures c.skip.ensures.pending (rw c.in_err-answer-in-None.was at c.answer.ensures.done []))

pub returns-in_err-answer-in-None-clause-asks : goal.returns-in_err-answer-in-None-clause-asks
returns-in_err-answer-in-None-clause-asks g c =
    let p = err_from_is_err_and c.from_residual-in_err-answer-in-None.result c.from_residual-in_err-answer-in-None.ensures.1 in
    let broken = rw c.in_err-answer-in-None.was at c.answer.ensures.done [] in
    rw (p.1, p.2, broken.fault_is) (stops_here (Some Record) (gives_none c.skip.ensures.reads c.requires.reads) (λ few. few))
