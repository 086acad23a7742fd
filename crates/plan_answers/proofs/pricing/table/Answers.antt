use Rattle.std.proofs.Common.{ℕ, ◌+◌, ◌-◌, ◌*◌, ◌≡◌, List, ◌++◌, ◌∙◌, ap, arith, string_bytes}
use Rattle.batch.proofs.Lists.{more_parts}
use Rattle.link_graph.specs.declared.limits.TheConstants.{LINKS}
use Rattle.plan_answers.specs.Pricing.{price_line}
use Rattle.plan_answers.proofs.pricing.table.Goals as goal

pub loop-shorter-preserved : goal.loop-shorter-preserved
loop-shorter-preserved c =
    let f = λ (shorter : ℕ). price_line c.args.priced.now.prices.items (shorter + 1) in
    let shorter = c.loop-shorter.shorter in
    let place = (shorter + 1) * LINKS in
    let all : place + LINKS - place ≡ LINKS = omega arith in
    let pushed = rw (c.deref.ensures.value, all) at c.in_ok-push_prices.ensures in
    pushed ∙ ap (λ (x : List ℕ). x ++ f shorter) c.loop-shorter.invariant ∙ more_parts f (string_bytes c.in_ok-text.text) shorter
