use Rattle.exchange.proofs.NoneWritten.{kept_none}
use Rattle.exchange.proofs.unserved.close_outputs.Goals as goal

pub returns : goal.returns
returns g c =
    kept_none (g.S.System.holds c.args.system.now) g.S.Stream.Write.contents g.S.System.received c.args.job.now c.args.outputs _ c.requires c.close_file.ensures
    c.close_file-2.ensures
