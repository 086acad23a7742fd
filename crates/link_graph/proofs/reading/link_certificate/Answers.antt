use Rattle.std.proofs.Common.{◌≡◌, ◌<◌, ℕ, List, [], ◌∷◌, length, refl, arith}
use Rattle.std.proofs.lemmas.Grind.{common_steps}
use Rattle.std.proofs.lemmas.Result.{err_from_is_err_and}
use Rattle.link_graph.proofs.CertificateLines.{no_named_line, bad_named_line, none_named, after_named}
use Rattle.link_graph.proofs.reading.link_certificate.Goals as goal

some_named : (ts : List ℕ) → (ts ≡ [] → ⊥) → 0 < length ts
some_named [] some = absurd (some refl)
some_named (t ∷ ts) some = omega arith

pub returns-in_default-clause-err : goal.returns-in_default-clause-err
returns-in_default-clause-err c = no_named_line c.args.above c.args.text.now c.in_default.ensures.none

pub returns-in_err-transfers-clause-err : goal.returns-in_err-transfers-clause-err
returns-in_err-transfers-clause-err c =
    let p = err_from_is_err_and c.from_residual.result c.from_residual.ensures.1 in
    rw (p.1, p.2) (bad_named_line c.args.above c.args.text.now c.in-Some.line.now c.in-Some.rest.now c.in_err-transfers.field-0.0 c.in-Some.ensures.some
    c.in_err-transfers.ensures.err)

pub returns-in_default-of-clause-err : goal.returns-in_default-of-clause-err
returns-in_default-of-clause-err c =
    none_named c.args.above c.args.text.now c.in-Some.line.now c.in-Some.rest.now c.in_ok-transfers.transfers.items c.in-Some.ensures.some
    c.in_ok-transfers.ensures.ok.1 (c.in_default-of.ensures.none.0 refl)

pub returns-then-not-is_empty-clause-err : goal.returns-then-not-is_empty-clause-err
returns-then-not-is_empty-clause-err c =
    let named : 0 < length c.in_ok-transfers.transfers.items = some_named c.in_ok-transfers.transfers.items
    (λ empty. let bad = c.in-Some-of.ensures.none.1 empty in absurd cc) in
    let more : 0 < length c.in-Some.rest.now = grind (arith, common_steps) in
    after_named c.args.above c.args.text.now c.in-Some.line.now c.in-Some.rest.now c.in_ok-transfers.transfers.items c.in-Some.ensures.some
    c.in_ok-transfers.ensures.ok.0 c.in_ok-transfers.ensures.ok.1 named more
