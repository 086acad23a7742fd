use Rattle.std.proofs.Common.{◌-◌, ap, drop, length, arith, rules}
use Rattle.std.proofs.lemmas.List.{length-take}
use Rattle.client_session.proofs.input.Input.pending.Goals as goal

pub returns-clause-bytes : goal.returns-clause-bytes
returns-clause-bytes c = search rules

pub returns-clause-room : goal.returns-clause-room
returns-clause-room c =
    let s = c.self.inside in
    let pending = ap (λ h. h.pending) c.self.view_is in
    let reads = ap (λ h. h.reads) c.self.view_is in
    (omega (arith, ap length pending, length-take (s.end - s.start) (drop s.start s.buffer)), omega (arith, reads))
