use Rattle.std.proofs.Common.{◌≡◌, ◌<◌, ◌∙◌, ap, arith}
use Rattle.alternating_path.specs.Colouring.{Colouring}
use Rattle.alternating_path.specs.Classes.{class_size}
use Rattle.alternating_path.proofs.Smallest.{row_counts, least_first, least_stays, least_moves, all_least}
use Rattle.alternating_path.proofs.table.Table.smallest_class.Goals as goal
use Rattle.alternating_path.proofs.table.Table.smallest_class.Goals.{then-size-least, else-size-least}

pub loop-colour-init : goal.loop-colour-init
loop-colour-init c = record {
  so_far = least_first _ c.requires.some;
  cost = omega (arith, c.class_size-least.ensures.cost, c.starts.ensures.few);
  size_is =
      c.class_size-least.ensures.count ∙ row_counts _ _ _ c.starts.ensures.starts;
}

pub loop-colour-preserved : goal.loop-colour-preserved
loop-colour-preserved c =
    let i = c.loop-colour.invariant in
    let in_range : c.loop-colour.colour < c.args.self.now.colours = rw (← c.self.view_is) c.loop-colour-test.true in
    let size : c.class_size-size.result ≡ class_size c.args.self.now.colour c.loop-colour.colour = c.class_size-size.ensures.count
    ∙ row_counts _ _ _ c.starts-in-loop-colour.ensures.starts in
    elim c.if-size-least.branch [
      | then-size-least w ↦
          rw (w.smallest-is, w.least-is)
          (record {
            so_far = least_moves c.args.self.now c.loop-colour.colour c.loop-colour.smallest i.so_far in_range
                (omega (arith, i.size_is, w.if-size-least.true));
            cost = omega (arith, i.cost, c.class_size-size.ensures.cost, c.starts-in-loop-colour.ensures.few);
            size_is = size;
          })
      | else-size-least w ↦
          rw (w.smallest-is, w.least-is)
          (record {
            so_far = least_stays c.args.self.now c.loop-colour.colour c.loop-colour.smallest i.so_far (omega (arith, i.size_is, w.if-size-least.false));
            cost = omega (arith, i.cost, c.class_size-size.ensures.cost, c.starts-in-loop-colour.ensures.few);
            size_is = i.size_is;
          })
    ]

pub returns-clause-smallest : goal.returns-clause-smallest
returns-clause-smallest c = all_least _ _ _ c.loop-colour.invariant.so_far (rw (← c.self.view_is) (omega arith))

pub returns-clause-cost : goal.returns-clause-cost
returns-clause-cost c =
    let colours : c.self.inside.colours ≡ c.args.self.now.colours = ap (λ (s : Colouring). s.colours) c.self.view_is in
    omega (arith, colours, c.requires.some, c.loop-colour.invariant.cost)
