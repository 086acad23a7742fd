use Rattle.std.proofs.Common.{length, refl, sym, ap, arith}
use Rattle.std.proofs.lemmas.Bool.{eqb-true, eqb-false}
use Rattle.std.proofs.lemmas.List.{length_push, nil_from_length}
use Rattle.std.proofs.lemmas.Result.{err_from_is_err_and}
use Rattle.batch.specs.ListFaults.{at_end}
use Rattle.batch.proofs.ListReading.{one_more, grown, stopped, whole}
use Rattle.batch.proofs.list_reading.read_list.Goals as goal

pub returns-in_err-thing-clause-fault : goal.returns-in_err-thing-clause-fault
returns-in_err-thing-clause-fault g c =
    let p = err_from_is_err_and c.from_residual.result c.from_residual.ensures.1 in
    rw (p.1, p.2) (λ _. stopped g.T.Listed.form c.args.shape _ _ _ _ _ _ c.loop-t.invariant.good c.loop-t.invariant.counted c.loop-t-test.true
    c.in_err-thing.ensures.err)

pub returns-in_err-push-clause-memory : goal.returns-in_err-push-clause-memory
returns-in_err-push-clause-memory g c =
    let p = err_from_is_err_and c.from_residual-in_err-push.result c.from_residual-in_err-push.ensures.1 in
    rw p.1 (λ _. grown g.T.Listed.form c.args.shape _ _ _ _ _ _ _ c.loop-t.invariant.good c.loop-t.invariant.counted c.loop-t-test.true
    c.in_ok-thing.ensures.ok)

pub loop-t-preserved : goal.loop-t-preserved
loop-t-preserved g c = record {
  counted = rw (c.in_ok-push.ensures.items, length_push, c.loop-t.invariant.counted) refl;
  good = one_more g.T.Listed.form c.args.shape _ _ _ _ _ _ _ _ c.loop-t.invariant.good c.loop-t.invariant.counted c.loop-t-test.true c.in_ok-thing.ensures.ok
      c.in_ok-push.ensures.items;
}

pub returns-then-not-is_empty-clause-fault : goal.returns-then-not-is_empty-clause-fault
returns-then-not-is_empty-clause-fault g c real =
    at_end c.in-Some.count _ c.loop-t.rest.now c.loop-t.invariant.good (omega (arith, c.loop-t.invariant.counted))
    (λ none. eqb-false _ _ (sym c.if-not-is_empty.ensures) (ap length none)) refl

pub returns-clause-list : goal.returns-clause-list
returns-clause-list g c = whole g.T.Listed.form c.args.shape _ _ _ _ c.loop-t.invariant.good (omega (arith, c.loop-t.invariant.counted))
    (nil_from_length c.loop-t.rest.now (eqb-true _ _ (sym c.if-not-is_empty.ensures)))
