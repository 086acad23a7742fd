use Rattle.std.proofs.Common.{◌≡◌, Some, inr, refl, rules}
use Rattle.exchange.proofs.warned.WarningObserver.warn.Goals as goal

pub returns-in-Some-clause-once : goal.returns-in-Some-clause-once
returns-in-Some-clause-once g c =
    let was : c.args.self.now.warning ≡ Some c.in-Some.line = search rules in
    (refl, inr (c.take.ensures.after, (c.in-Some.line, was, rw (c.as_bytes.ensures.value, c.as_str.ensures.value) at c.tell_line.ensures)))
