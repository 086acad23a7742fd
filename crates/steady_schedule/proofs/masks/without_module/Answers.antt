use Rattle.std.proofs.lemmas.Nat.{one_shl}
use Rattle.link_graph.proofs.Masks.{toggled_less}
use Rattle.steady_schedule.proofs.Searching.{out_here, out_other}
use Rattle.steady_schedule.proofs.masks.without_module.Goals as goal

pub returns : goal.returns
returns c =
    rw (one_shl c.args.module 32 c.requires.low)
    (record {
      out = out_here c.args.mask c.args.module c.requires.has;
      others = out_other c.args.mask c.args.module c.requires.has;
      less = toggled_less c.args.mask c.args.module c.requires.has;
    })
