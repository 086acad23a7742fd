use Rattle.std.proofs.lemmas.Grind.{common_steps}
use Rattle.std.proofs.Common.{rules, arith, append_assoc}
use Rattle.std.proofs.lemmas.Result.{err_from_is_err_and}
use Rattle.peek_poke.proofs.word.carry_back.Goals as goal

pub returns-in_err-c1-clause-broken : goal.returns-in_err-c1-clause-broken
returns-in_err-c1-clause-broken g c =
    let p = err_from_is_err_and c.from_residual-in_err-c1.result c.from_residual-in_err-c1.ensures.1 in
    rw (p.1) (1, omega arith, search (rules, append_assoc))

pub returns-in_err-c2-clause-broken : goal.returns-in_err-c2-clause-broken
returns-in_err-c2-clause-broken g c =
    let p = err_from_is_err_and c.from_residual-in_err-c2.result c.from_residual-in_err-c2.ensures.1 in
    rw (p.1) (2, omega arith, search (rules, append_assoc))

pub returns-in_err-c3-clause-broken : goal.returns-in_err-c3-clause-broken
returns-in_err-c3-clause-broken g c =
    let p = err_from_is_err_and c.from_residual-in_err-c3.result c.from_residual-in_err-c3.ensures.1 in
    rw (p.1) (3, omega arith, search (rules, append_assoc))

pub returns-clause-arrived : goal.returns-clause-arrived
returns-clause-arrived g c = grind (arith, common_steps)

pub returns-clause-carried : goal.returns-clause-carried
returns-clause-carried g c = grind (arith, common_steps)
