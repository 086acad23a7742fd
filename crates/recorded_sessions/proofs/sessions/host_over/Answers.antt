use Rattle.std.proofs.Common.{◌∙◌}
use Rattle.named_files.proofs.Admitted.{names_all}
use Rattle.recorded_sessions.proofs.sessions.host_over.Goals as goal

pub returns-in-Ok-clause-admitted : goal.returns-in-Ok-clause-admitted
returns-in-Ok-clause-admitted g c =
    c.in-Ok.ensures.admitted
    ∙ names_all (g.S.ClientFiles.says c.args.streams.now.system.now) (g.S.ClientFiles.had c.args.streams.now.system.now) c.args.streams.now.clients.now
