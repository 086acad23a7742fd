use Rattle.std.proofs.Common.{◌≡◌, ◌≢◌, ◌∷◌, ◌∙◌, sym, List, ℕ, arith, rules}
use Rattle.link_graph.proofs.LinkLines.{ends_at, no_end}
use Rattle.link_graph.proofs.reading.link_end.Goals as goal

pub returns-in-Some-clause-some : goal.returns-in-Some-clause-some
returns-in-Some-clause-some c =
    let front : c.args.bytes.now ≡ 48 ∷ c.in-Some.rest.now = search rules in
    front ∙ sym (ends_at 0 c.in-Some.rest.now (omega arith))

pub returns-in_err-rest-clause-none : goal.returns-in_err-rest-clause-none
returns-in_err-rest-clause-none c =
    let zero : (rest : List ℕ) → c.args.bytes.now ≢ 48 ∷ rest = search rules in
    let three : (rest : List ℕ) → c.args.bytes.now ≢ 51 ∷ rest = search rules in
    rw c.from_residual.ensures (no_end c.args.bytes.now zero three)

pub returns-clause-some : goal.returns-clause-some
returns-clause-some c =
    let front : c.args.bytes.now ≡ 51 ∷ c.in_ok-rest.rest.now = search rules in
    front ∙ sym (ends_at 3 c.in_ok-rest.rest.now (omega arith))
