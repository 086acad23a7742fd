use Rattle.batch.proofs.Lines.{after_module}
use Rattle.batch.proofs.list_reading.place_before.Goals as goal

pub returns-in_err-block-clause-none : goal.returns-in_err-block-clause-none
returns-in_err-block-clause-none c = rw c.from_residual-in_err-block.ensures (λ p rest begins.
    let behind = after_module c.args.bytes.now c.in_ok-module.module c.args.end c.in_ok-module.rest.now p rest begins.0 c.in_ok-module.ensures.some begins.1 in
    c.in_err-block.ensures.none p.block rest begins.0.1 behind.1)
