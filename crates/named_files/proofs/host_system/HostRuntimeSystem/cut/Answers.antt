use Rattle.std.proofs.Common.{◌∙◌, List, ℕ, Some, ap₂, take}
use Rattle.std.proofs.lemmas.Result.{on_err_weaker, on_ok_weaker}
use Rattle.named_files.specs.Streams.{named_text}
use Rattle.named_files.proofs.Named.{one_name}
use Rattle.named_files.proofs.Written.{opened_named}
use Rattle.named_files.proofs.host_system.HostRuntimeSystem.cut.Goals as goal

pub returns-clause-cut : goal.returns-clause-cut
returns-clause-cut c =
    let old = c.args.stream.now in
    let new = c.cut.new.self in
    let held = c.args.held.now in
    on_ok_weaker c.cut.result (λ is name gone. opened_named name new.named new.sent.sent (take c.args.kept held)
    (c.cut.ensures.named ∙ one_name old.named name old.sent.sent held gone) is) c.cut.ensures.cut

pub returns-clause-same : goal.returns-clause-same
returns-clause-same c = on_err_weaker c.cut.result (λ is. ap₂ (λ (n : List ℕ) (x : List ℕ). Some (named_text n x)) c.cut.ensures.named is) c.cut.ensures.same
