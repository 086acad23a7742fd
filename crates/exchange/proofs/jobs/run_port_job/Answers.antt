use Rattle.exchange.specs.Responses.{IsC004By, IsC004Cut}
use Rattle.exchange.proofs.Comes.{no_ports}
use Rattle.exchange.proofs.Forewarned.{beside_by}
use Rattle.exchange.proofs.jobs.run_port_job.Goals as goal

pub returns-in-Drive-clause-response : goal.returns-in-Drive-clause-response
returns-in-Drive-clause-response g c = rw c.in-Drive.is (rw (c.as_str.ensures, c.text_in.ensures) at c.drive.ensures.answer)

pub returns-in-Drive-clause-beside : goal.returns-in-Drive-clause-beside
returns-in-Drive-clause-beside g c = beside_by _ c.args.request.now c.overlap_warning_of-warning.result _ _
    (rw (c.requires, c.in-Drive.is) c.overlap_warning_of-warning.ensures) c.drive.ensures.beside

pub returns-in-C004-clause-response : goal.returns-in-C004-clause-response
returns-in-C004-clause-response g c =
    rw c.in-C004.is (no_ports c.c004.result _ _ (λ told found. IsC004By (g.I.Read.remaining c.args.input.now) told found.answer)
    (IsC004Cut (g.I.Read.remaining c.args.input.now)) _ c.c004.ensures.answer)

pub returns-in-C004-2-clause-response : goal.returns-in-C004-2-clause-response
returns-in-C004-2-clause-response g c =
    rw c.in-C004-2.is (no_ports c.c004-in-C004-2.result _ _ (λ told found. IsC004By (g.I.Read.remaining c.args.input.now) told found.answer)
    (IsC004Cut (g.I.Read.remaining c.args.input.now)) _ c.c004-in-C004-2.ensures.answer)
