use Rattle.std.proofs.Common.{◌≡◌, ◌+◌, Some, Result, Ok, Err, IfErr, OnOk, OnErr, refl, take, ap, ◌∙◌, arith}
use Rattle.client_session.specs.declared.fault.ServeFault.{ServeFault}
use Rattle.std.proofs.lemmas.Result.{err_from_is_err_and}
use Rattle.client_session.specs.declared.fault.ServeFault.TheVariants.{NoMemory, Record}
use Rattle.client_session.proofs.Asking.{gives_none, stops_here}
use Rattle.client_session.proofs.Turning.{asked_then, batch_done, fails, fuel_skip, lines_unlost, stopped_at_once, stopped_in_lines}
use Rattle.client_session.proofs.turns.batch.Goals as goal

pub returns-in_err-text-clause-err : goal.returns-in_err-text-clause-err
returns-in_err-text-clause-err g c =
    let p = err_from_is_err_and c.from_residual.result c.from_residual.ensures.1 in
    rw (p.1, p.2) (stopped_at_once _ c.args.input.now _ c.args.n c.args.count c.requires.found.0 c.requires.found.1 c.requires.room c.requires.means)

pub returns-in_err-take_lines-clause-err : goal.returns-in_err-take_lines-clause-err
returns-in_err-take_lines-clause-err g c =
    let p = err_from_is_err_and c.from_residual-in_err-take_lines.result c.from_residual-in_err-take_lines.ensures.1 in
    rw (p.1, p.2)
    (fails _ _ _ _ _ _ (stopped_in_lines _ _ _ c.args.input.now c.skip.new.self c.take_lines.new.input _ c.args.n c.args.count _ _ c.requires.found.0
    c.requires.found.1 c.requires.means c.skip.ensures.pending c.in_err-take_lines.ensures.err))

pub returns-in_err-text-clause-asks : goal.returns-in_err-text-clause-asks
returns-in_err-text-clause-asks g c =
    let p = err_from_is_err_and c.from_residual.result c.from_residual.ensures.1 in
    rw (p.1, p.2) (stops_here (Some NoMemory) (gives_none refl c.requires.reads) (λ few. few))

pub returns-in_err-take_lines-clause-asks : goal.returns-in_err-take_lines-clause-asks
returns-in_err-take_lines-clause-asks g c =
    let p = err_from_is_err_and c.from_residual-in_err-take_lines.result c.from_residual-in_err-take_lines.ensures.1 in
    rw (p.1, p.2) (rw c.skip.ensures.reads at c.in_err-take_lines.ensures.asks)

pub returns-in_err-take_lines-clause-loses : goal.returns-in_err-take_lines-clause-loses
returns-in_err-take_lines-clause-loses g c =
    let p = err_from_is_err_and c.from_residual-in_err-take_lines.result c.from_residual-in_err-take_lines.ensures.1 in
    rw (p.1, p.2) (λ is. absurd (lines_unlost _ _ _ _ _ _ _ _ is c.in_err-take_lines.ensures.err))

pub returns-clause-ok : goal.returns-clause-ok
returns-clause-ok g c =
    let first = c.in_ok-text.ensures.items ∙ ap (take (c.args.n + 1)) c.pending.ensures.bytes in
    (batch_done c.submit.result _ _ c.args.input.now c.skip.new.self c.take_lines.new.input _ _ c.args.n c.args.count _ c.take_lines.new.text.items _ _
    c.requires.found.0 c.requires.found.1 c.requires.means c.skip.ensures.pending first c.in_ok-take_lines.ensures.ok
    c.as_slice-text.ensures.value c.submit.ensures.done).0

pub returns-clause-err : goal.returns-clause-err
returns-clause-err g c =
    let first = c.in_ok-text.ensures.items ∙ ap (take (c.args.n + 1)) c.pending.ensures.bytes in
    (batch_done c.submit.result _ _ c.args.input.now c.skip.new.self c.take_lines.new.input _ _ c.args.n c.args.count _ c.take_lines.new.text.items _ _
    c.requires.found.0 c.requires.found.1 c.requires.means c.skip.ensures.pending first c.in_ok-take_lines.ensures.ok
    c.as_slice-text.ensures.value c.submit.ensures.done).1

pub returns-clause-asks : goal.returns-clause-asks
returns-clause-asks g c = asked_then c.submit.result _ _ _ _ _ (rw c.skip.ensures.reads at c.in_ok-take_lines.ensures.asks) c.submit.ensures.done

taken : {T : Type 0} {P : Type 0} (r : Result T ServeFault) → P → OnOk r P
taken (Ok x) p = p
taken (Err e) p = tt

pub returns-clause-fuel : goal.returns-clause-fuel
returns-clause-fuel g c =
    let less = fuel_skip c.args.input.now c.skip.new.self c.args.n c.skip.ensures.pending c.skip.ensures.reads c.requires.found.0.0 in
    taken c.submit.result (omega (arith, less, c.in_ok-take_lines.ensures.fuel))

lost : {T : Type 0} (P : Type 0) (r : Result T ServeFault) → OnErr r P → IfErr r (λ e. e ≡ Record → P)
lost P (Ok x) p = tt
lost P (Err e) p = λ is. p

pub returns-clause-loses : goal.returns-clause-loses
returns-clause-loses g c = lost _ c.submit.result c.submit.ensures.loses
