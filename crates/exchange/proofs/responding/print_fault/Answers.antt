use Rattle.std.proofs.Common.{inl, inr, refl}
use Rattle.exchange.proofs.Told.{without_arguments}
use Rattle.exchange.proofs.responding.print_fault.Goals as goal

pub returns-in-NoMemory-clause-done : goal.returns-in-NoMemory-clause-done
returns-in-NoMemory-clause-done g c =
    rw c.in-NoMemory.is (without_arguments c.refuse.result (g.O.Write.contents c.args.out.now) (g.O.Write.contents c.refuse.new.out)
    (g.E.Write.contents c.args.err.now) c.refuse.ensures.printed)

pub returns-in_ok-write-in-Clap-clause-done : goal.returns-in_ok-write-in-Clap-clause-done
returns-in_ok-write-in-Clap-clause-done g c =
    let fault = c.use_stderr.ensures.0 c.if-use_stderr.true in
    rw c.in-Clap.is ((λ help. elim help [ inl is ↦ absurd (fault.0 is) | inr is ↦ absurd (fault.1 is) ]), (λ other. (refl, refl)))
