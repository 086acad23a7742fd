use Rattle.std.proofs.Common.{is_ok}
use Rattle.named_files.proofs.Written.{left_named}
use Rattle.named_files.proofs.host_system.HostRuntimeSystem.put.Goals as goal

pub returns : goal.returns
returns c =
    let file = c.args.stream in
    let left = c.put.result.0 in
    left_named file.named file.sent.sent left.named left.sent (is_ok c.put.result.1) left.durable c.put.ensures
