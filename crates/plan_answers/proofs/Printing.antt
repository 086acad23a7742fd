-- What is printed, told apart by its text and its status.
use Rattle.std.proofs.Common.{◌≡◌, ℕ, List, ap, sym, ◌∙◌}
use Rattle.plan_answers.specs.Refusals.{Printed, IsRefused}

pub printed_same : (p q : Printed) → p.text ≡ q.text → p.status ≡ q.status → p ≡ q
printed_same p q text status =
    let made : List ℕ → ℕ → Printed = λ t s. record { text = t; status = s } in
    ap (λ (t : List ℕ). made t p.status) text ∙ ap (made q.text) status

pub refused_same : (words : List ℕ) (p q : Printed) → IsRefused words p → IsRefused words q → p ≡ q
refused_same words p q a b = printed_same p q (a.line ∙ sym b.line) (a.status ∙ sym b.status)
