use Rattle.std.proofs.Common.{arith}
use Rattle.board_wiring.proofs.Lines.{behind0, is_module, is_link0}
use Rattle.board_wiring.proofs.reading.module_line.Goals as goal

pub returns-then-number-ge-MAX_BOARD_MODULES-clause-none : goal.returns-then-number-ge-MAX_BOARD_MODULES-clause-none
returns-then-number-ge-MAX_BOARD_MODULES-clause-none c on rest ports same =
    let one = is_module c.args.bytes.now c.in_ok-number.number c.in_ok-number.rest.now on rest c.in_ok-number.ensures.some.0 ports c.in_ok-number.ensures.some.1
    same in
    omega (arith, one.0, ports.0, c.if-number-ge-MAX_BOARD_MODULES.true)

pub returns-in_err-link0-clause-none : goal.returns-in_err-link0-clause-none
returns-in_err-link0-clause-none c = rw c.from_residual-in_err-link0.ensures (λ on rest ports same.
    let one = is_module c.args.bytes.now c.in_ok-number.number c.in_ok-number.rest.now on rest c.in_ok-number.ensures.some.0 ports c.in_ok-number.ensures.some.1
    same in
    c.in_err-link0.ensures.none on.link0 (behind0 on rest) ports.1 one.1)

pub returns-in_err-link3-clause-none : goal.returns-in_err-link3-clause-none
returns-in_err-link3-clause-none c = rw c.from_residual-in_err-link3.ensures (λ on rest ports same.
    let one = is_link0 c.args.bytes.now c.in_ok-number.number c.in_ok-link0.link0 c.in_ok-number.rest.now c.in_ok-link0.rest.now on rest
    c.in_ok-number.ensures.some.0 c.in_ok-link0.ensures.some.0 ports c.in_ok-number.ensures.some.1 c.in_ok-link0.ensures.some.1 same in
    c.in_err-link3.ensures.none on.link3 rest ports.2 one.1)
