use Rattle.std.proofs.Common.{◌++◌, ◌∷◌, [], IsTrue, sym, ◌∙◌, subst, arith, length-append}
use Rattle.std.proofs.lemmas.Result.{err_from_is_err_and}
use Rattle.crossbar.specs.Chips.{switch_at}
use Rattle.crossbar.specs.declared.chip.Chip.TheVariants.{A}
use Rattle.switch_driver.proofs.Asking.{agree_more, disagreed_at, front_more, passed_more}
use Rattle.switch_driver.proofs.setting.ask_all.Goals as goal

pub returns-in_err-came-clause-vain : goal.returns-in_err-came-clause-vain
returns-in_err-came-clause-vain g c =
    let so_far = c.loop-number.invariant in
    let p = err_from_is_err_and c.from_residual.result c.from_residual.ensures.1 in
    let broken = rw c.port_of-output.ensures at c.in_err-came.ensures.broken in
    rw (p.1, p.2) (front_more c.args.chip c.loop-number.number so_far.replies _ _ _ c.loop-number-test.true so_far.many so_far.passed broken)

pub returns-in_err-judge-clause-vain : goal.returns-in_err-judge-clause-vain
returns-in_err-judge-clause-vain g c =
    let so_far = c.loop-number.invariant in
    let n = c.loop-number.number in
    let came = c.in_ok-came.came in
    let p = err_from_is_err_and c.from_residual-in_err-judge.result c.from_residual-in_err-judge.ensures.1 in
    let differs = c.in_err-judge.ensures.differs in
    let asked = rw c.port_of-output.ensures at c.in_ok-came.ensures.passed in
    rw (p.1, p.2)
    (disagreed_at _ c.args.chip c.args.wiring c.args.pairs.now _ n _ so_far.replies came _ _ c.wanted_switch-wanted.ensures c.port_of-output.ensures
    c.loop-number-test.true so_far.many differs.0 differs.1 so_far.agree
    (passed_more c.args.chip n so_far.replies came _ _ _ so_far.many so_far.passed asked))

pub loop-number-preserved : goal.loop-number-preserved
loop-number-preserved g c =
    let so_far = c.loop-number.invariant in
    let n = c.loop-number.number in
    let came = c.in_ok-came.came in
    let given = c.in_ok-came.ensures in
    let agrees = rw c.port_of-output.ensures at c.in_ok-judge.ensures.agrees in
    let asked = rw c.port_of-output.ensures at given.passed in
    record {
      replies = so_far.replies ++ came ∷ [];
      many = omega (arith, so_far.many, length-append so_far.replies (came ∷ []));
      agree = agree_more (switch_at A c.wanted_switch-wanted.result) n so_far.replies came so_far.many so_far.agree agrees;
      passed = passed_more c.args.chip n so_far.replies came _ _ _ so_far.many so_far.passed asked;
      unmoved = λ honest. given.unmoved (subst IsTrue (sym so_far.honesty) honest) ∙ so_far.unmoved honest;
      unfailed = given.unfailed ∙ so_far.unfailed;
      honesty = given.honesty ∙ so_far.honesty;
    }
