use Rattle.std.proofs.Common.{◌+◌, get_or, arith}
use Rattle.link_graph.specs.declared.link.End.TheVariants.{Zero}
use Rattle.steady_schedule.specs.Waiting.{count_at}
use Rattle.steady_schedule.proofs.Waiting.{told_now, put_bits, zero_waits}
use Rattle.steady_schedule.proofs.remaining.Remaining.add.Goals as goal

pub overflow_add-self-2 : goal.overflow_add-self-2
overflow_add-self-2 c =
    let s = c.args.self.now in
    record {
      fits = omega (
        arith,
        zero_waits s.counts s.zero.near s.zero.uses s.three.near s.three.uses c.args.zero c.args.three s.told c.requires.zero_in
            c.requires.three_in,
        s.told.uses_zero c.args.zero c.requires.zero_in,
        c.requires.few Zero c.args.zero c.requires.zero_in,
      );
    }

pub invariant_of-self : goal.invariant_of-self
invariant_of-self c =
    let s = c.args.self.now in
    record {
      told = told_now s.counts c.args.zero c.args.three (count_at s.counts c.args.zero c.args.three + 1) s.told.places c.requires.zero_in c.requires.three_in
          s.zero.near s.zero.uses s.three.near s.three.uses _ _ _ _ s.told
          (put_bits _ (get_or s.zero.near c.args.zero 0) c.args.three (count_at s.counts c.args.zero c.args.three + 1) (omega arith) c.with_module.ensures)
          (put_bits _ (get_or s.three.near c.args.three 0) c.args.zero (count_at s.counts c.args.zero c.args.three + 1) (omega arith) c.with_module-2.ensures)
          (omega arith) (omega arith);
    }
