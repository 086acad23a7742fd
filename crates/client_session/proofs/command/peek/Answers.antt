use Rattle.std.proofs.Common.{◌++◌, codes, rules}
use Rattle.batch.specs.Text.{number, space}
use Rattle.line_words.specs.HexWords.{hex8}
use Rattle.line_words.proofs.Numbers.{after_word, after_number}
use Rattle.client_session.proofs.command.peek.Goals as goal

pub returns-in_err-address-clause-none : goal.returns-in_err-address-clause-none
returns-in_err-address-clause-none c = rw c.from_residual-in_err-address.ensures (λ n a fn fa e.
    let behind = after_word c.args.line.now (codes "peek ") c.in_ok-rest.rest.now (number n space ++ hex8 a) c.in_ok-rest.ensures e in
    c.in_err-address.ensures.none a fa (after_number c.in_ok-rest.rest.now c.in_ok-module.rest.now (hex8 a) c.in_ok-module.«module» n
    c.in_ok-module.ensures.some fn behind))

pub returns-clause-some : goal.returns-clause-some
returns-clause-some c = search rules
