use Rattle.std.proofs.Common.{arith}
use Rattle.batch.specs.declared.limits.TheConstants.{MAX_TRANSFERS}
use Rattle.link_graph.proofs.Users.{made}
use Rattle.steady_schedule.proofs.Slots.{counts_few}
use Rattle.steady_schedule.proofs.Waiting.{waiting_uses, all_low}
use Rattle.steady_schedule.proofs.numbering.settings_of.Goals as goal

pub of-places-requires : goal.of-places-requires
of-places-requires c = counts_few c.args.graph.now c.add_all.new.self.counts MAX_TRANSFERS c.add_all.ensures c.requires.batch.few

pub settings_by-requires-clause-most : goal.settings_by-requires-clause-most
settings_by-requires-clause-most c =
    λ end m m_in. omega (
      arith,
      waiting_uses c.args.graph.now c.add_all.new.self.counts end m c.add_all.ensures (all_low c.args.graph.now c.requires.batch)
          m_in,
      c.requires.most (made end m),
    )

pub settings_by-requires-clause-room : goal.settings_by-requires-clause-room
settings_by-requires-clause-room c = omega (arith, c.of-places.result.placed.all, c.deref_mut.ensures.len, c.in_ok-slots.ensures.len)
