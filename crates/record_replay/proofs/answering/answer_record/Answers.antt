use Rattle.std.proofs.Common.{◌≡◌, ◌⊎◌, ℕ, Some, ap, refl, rules, subst, sym}
use Rattle.plan_answers.specs.Refusals.{Refuses}
use Rattle.refusals.specs.declared.refusal.Refusal.{Refusal}
use Rattle.record_replay.specs.ReplayAnswers.{IsTornSo, led, of_record, record_wrong}
use Rattle.record_replay.specs.Replays.{AreFewer, Ends}
use Rattle.record_replay.proofs.answering.answer_record.Goals as goal

pub torn_at-requires : goal.torn_at-requires
torn_at-requires g c =
    subst (λ (n : ℕ). (c.args.first ≡ Some n) ⊎ (AreFewer n c.args.first × Ends n c.in-Ok.remade.rest.now)) c.in-Ok.ensures.counted c.in-Ok.ensures.remade.ends

pub returns-in_ok-image-in-Ok : goal.returns-in_ok-image-in-Ok
returns-in_ok-image-in-Ok g c =
    led c.in-Ok.remade.book.history c.in-Ok.remade.book.machine c.in-Ok.remade.rest.now c.in-Ok.ensures.remade (search rules) c.done.ensures.status refl
    (subst (λ (n : ℕ). IsTornSo c.args.recorded.now c.args.first n c.in-Ok.remade.rest.now c.torn_at.result) (sym c.in-Ok.ensures.counted) c.torn_at.ensures)

pub returns-in_ok-refused-in-Err : goal.returns-in_ok-refused-in-Err
returns-in_ok-refused-in-Err g c =
    let answer = c.in_ok-refused-in-Err.field-0 in
    let error = c.in-Err.error in
    let refuses : Refuses (of_record error.fault) answer = subst (λ (r : Refusal). Refuses r answer) c.refusal_of.ensures c.in_ok-refused-in-Err.ensures in
    record_wrong error c.after_head.result (c.in-Err.ensures.wrong (λ e. refuses.0 (ap of_record e))) c.after_head.ensures refuses refl refl
