use Rattle.std.proofs.Common.{rules}
use Rattle.line_words.specs.HexWords.{hex8}
use Rattle.line_words.proofs.Numbers.{after_poke, after_hex8}
use Rattle.client_session.proofs.command.poke.Goals as goal

pub returns-in_err-address-clause-none : goal.returns-in_err-address-clause-none
returns-in_err-address-clause-none c =
    rw c.from_residual-in_err-address.ensures
    (λ n a w fn fa fw e. c.in_err-address.ensures.none a (hex8 w) fa (after_poke c.args.line.now c.in_ok-rest.rest.now c.in_ok-module.rest.now
    c.in_ok-module.«module» n a w c.in_ok-rest.ensures c.in_ok-module.ensures.some fn e))

pub returns-in_err-word-clause-none : goal.returns-in_err-word-clause-none
returns-in_err-word-clause-none c =
    rw c.from_residual-in_err-word.ensures
    (λ n a w fn fa fw e. c.in_err-word.ensures.none w fw (after_hex8 c.in_ok-module.rest.now c.in_ok-address.rest.now (hex8 w) c.in_ok-address.address a
    c.in_ok-address.ensures.some.1
    (after_poke c.args.line.now c.in_ok-rest.rest.now c.in_ok-module.rest.now c.in_ok-module.«module» n a w c.in_ok-rest.ensures c.in_ok-module.ensures.some fn
    e)))

pub returns-clause-some : goal.returns-clause-some
returns-clause-some c = search rules
