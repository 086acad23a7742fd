use Rattle.std.proofs.Common.{false}
use Rattle.named_files.proofs.Written.{left_named}
use Rattle.named_files.proofs.host_system.HostRuntimeSystem.close.Goals as goal

pub returns : goal.returns
returns c =
    let file = c.args.stream in
    let left = c.close.result in
    left_named file.named file.sent.sent left.named left.sent false left.durable c.close.ensures
