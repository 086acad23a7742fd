use Rattle.std.proofs.Common.{◌∙◌, arith}
use Rattle.steady_schedule.proofs.Reaches.{held_more, rows_still, row_put}
use Rattle.steady_schedule.proofs.reach.Reach.add_row.Goals as goal

pub links-preserved-then-count-self : goal.links-preserved-then-count-self
links-preserved-then-count-self c =
    let s = c.links.self in
    let counts = c.args.remaining.now.counts in
    let zero = c.add.ensures.near in
    let three = c.add-then-count-self.ensures.near in
    let zero_now = c.add.new.self.near in
    let three_now = c.add-then-count-self.new.self.near in
    let at = c.lowest-three.result in
    record {
      held = held_more counts s.settings s.zero.near s.three.near zero_now three_now c.args.zero at (omega (arith, c.if-count-self.true, c.count-count.ensures))
          zero three c.links.invariant.held;
      all = rows_still counts s.settings c.args.zero s.zero.near s.three.near zero_now three_now c.args.zero at zero three c.links.invariant.all;
      row = row_put counts s.settings c.args.zero at c.links.rest c.without_module-rest.result s.zero.near s.three.near zero_now three_now zero three
          c.without_module-rest.ensures.others c.links.invariant.row;
      settings = c.links.invariant.settings;
      zero_needed = c.add.ensures.needed ∙ c.links.invariant.zero_needed;
      three_needed = c.add-then-count-self.ensures.needed ∙ c.links.invariant.three_needed;
    }
