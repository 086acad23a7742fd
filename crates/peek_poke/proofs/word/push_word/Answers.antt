use Rattle.std.proofs.Common.{◌∙◌, ◌-◌, [], ap, arith}
use Rattle.std.proofs.lemmas.Grind.{common_steps}
use Rattle.std.proofs.lemmas.Result.{err_from_is_err_and}
use Rattle.peek_poke.specs.declared.message.TheConstants.{POKE_BYTES}
use Rattle.peek_poke.specs.Messages.{Pending}
use Rattle.peek_poke.proofs.Breaking.{in_front, after_front}
use Rattle.peek_poke.proofs.word.push_word.Goals as goal

pub returns-in_err-send_front-clause-broken : goal.returns-in_err-send_front-clause-broken
returns-in_err-send_front-clause-broken g c =
    let p = err_from_is_err_and c.from_residual.result c.from_residual.ensures.1 in
    rw (p.1) (in_front g.W.Wire.carried _ _ _ _ (POKE_BYTES - 1) c.poke_bytes-bytes.result _ [] c.poke_bytes-bytes.ensures c.in_err-send_front.ensures.broken)

pub returns-in_err-last-clause-broken : goal.returns-in_err-last-clause-broken
returns-in_err-last-clause-broken g c =
    let p = err_from_is_err_and c.from_residual-in_err-last.result c.from_residual-in_err-last.ensures.1 in
    let front = c.in_ok-send_front.ensures in
    rw (p.1) (after_front g.W.Wire.carried _ _ _ _ (POKE_BYTES - 1) c.poke_bytes-bytes.result _ [] c.poke_bytes-bytes.ensures (omega arith)
    (c.in_err-last.ensures.kept ∙ front.carried) (ap (λ (p : Pending). p.taken) front.sent))

pub returns-clause-taken : goal.returns-clause-taken
returns-clause-taken g c = grind (arith, common_steps)

pub returns-clause-carried : goal.returns-clause-carried
returns-clause-carried g c = grind (arith, common_steps)
