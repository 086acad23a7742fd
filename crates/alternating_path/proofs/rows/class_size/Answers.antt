use Rattle.std.proofs.Common.{arith, is_some, None, ◌∙◌, ap, count_by, sym}
use Rattle.std.proofs.lemmas.List.{take_all}
use Rattle.std.proofs.lemmas.List.Sums.{count_by_more_yes, count_by_more_no}
use Rattle.alternating_path.proofs.rows.class_size.Goals as goal
use Rattle.alternating_path.proofs.rows.class_size.Goals.{then-is_some, else-is_some}

pub loop-holder-preserved : goal.loop-holder-preserved
loop-holder-preserved c =
    let i = c.loop-holder.invariant in
    elim c.if-is_some.branch [
      | then-is_some w ↦ rw w.size-is (record {
        counted = omega (
          arith,
          i.counted,
          count_by_more_yes is_some c.args.starts.now c.loop-holder.holder-index None c.loop-holder-test.true
              (sym c.is_some.ensures ∙ w.if-is_some.true),
        );
        cost = omega (arith, i.cost, c.tick.ensures);
        few = omega (arith, i.few);
      })
      | else-is_some w ↦ rw w.size-is (record {
        counted = omega (
          arith,
          i.counted,
          count_by_more_no is_some c.args.starts.now c.loop-holder.holder-index None c.loop-holder-test.true
              (sym c.is_some.ensures ∙ w.if-is_some.false),
        );
        cost = omega (arith, i.cost, c.tick.ensures);
        few = omega (arith, i.few);
      })
    ]

pub returns-clause-count : goal.returns-clause-count
returns-clause-count c = c.loop-holder.invariant.counted ∙ ap (count_by is_some) (take_all c.loop-holder.holder-index c.args.starts.now (omega arith))
