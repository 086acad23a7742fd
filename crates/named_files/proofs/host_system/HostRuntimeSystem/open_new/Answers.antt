use Rattle.std.specs.Prelude.{◌≡◌, [], Some}
use Rattle.std.proofs.lemmas.Result.{IfOk-weaker}
use Rattle.named_files.specs.Streams.{written_to, named_text}
use Rattle.named_files.proofs.Written.{opened_named}
use Rattle.named_files.proofs.host_system.HostRuntimeSystem.open_new.Goals as goal

pub returns : goal.returns
returns c =
    let name = c.args.name.now in
    IfOk-weaker c.open_new.result (λ it. (it.sent.sent ≡ []) × (it.named ≡ name)) (λ it. written_to name (Some (named_text it.named it.sent.sent)) ≡ Some [])
    (λ it is. opened_named name it.named it.sent.sent [] is.1 is.0) c.open_new.ensures
