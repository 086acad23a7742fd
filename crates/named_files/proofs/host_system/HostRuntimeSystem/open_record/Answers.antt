use Rattle.std.specs.Prelude.{◌≡◌, ⊤, Some}
use Rattle.std.proofs.lemmas.Result.{IfOk-weaker}
use Rattle.named_files.specs.Streams.{written_to, named_text}
use Rattle.named_files.proofs.Written.{opened_named}
use Rattle.named_files.proofs.host_system.HostRuntimeSystem.open_record.Goals as goal

pub returns : goal.returns
returns c =
    let name = c.args.name.now in
    IfOk-weaker c.open_record.result (λ it. (it.0.sent.sent ≡ it.1.items) × (it.0.named ≡ name))
    (λ it. ⊤ × (written_to name (Some (named_text it.0.named it.0.sent.sent)) ≡ Some it.1.items))
    (λ it is. (tt, opened_named name it.0.named it.0.sent.sent it.1.items is.1 is.0)) c.open_record.ensures
