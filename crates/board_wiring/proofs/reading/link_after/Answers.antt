use Rattle.std.proofs.Common.{arith}
use Rattle.std.specs.Prelude.{codes}
use Rattle.board_wiring.proofs.Lines.{after_number}
use Rattle.board_wiring.proofs.reading.link_after.Goals as goal

pub returns-then-n-clause-none : goal.returns-then-n-clause-none
returns-then-n-clause-none c n rest lt same =
    let one = after_number c.args.bytes.now (codes "at ") c.in_ok-n.n n c.args.end c.in_ok-n.rest.now rest c.requires c.in_ok-n.ensures.some.0 (omega arith)
    c.in_ok-n.ensures.some.1 same in
    omega (arith, one.0)
