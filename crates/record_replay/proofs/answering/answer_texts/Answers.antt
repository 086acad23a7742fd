use Rattle.std.proofs.Common.{◌≡◌, ℕ, List, None, Ok, Err, Result, IfOk, rules, subst, sym}
use Rattle.std.specs.Prelude.{option_map}
use Rattle.std.proofs.lemmas.Result.{IfOk-weaker}
use Rattle.plan_answers.specs.Lent.{bytes_of}
use Rattle.plan_answers.specs.Refusals.{Refuses}
use Rattle.record_replay.specs.ReplayAnswers.{IsRecordAnswer, IsReplayAnswer, IsShapeOf, RefusesHead, no_head, other_head, rack_wrong, replayed}
use Rattle.record_replay.proofs.Heads.{body_within}
use Rattle.record_replay.proofs.answering.answer_texts.Goals as goal

all_three : {T E : Type 0} (r : Result T E) (P Q S R : T → Type 0) → IfOk r P → IfOk r Q → IfOk r S → ((x : T) → P x → Q x → S x → R x) → IfOk r R
all_three (Ok x) P Q S R p q s f = f x p q s
all_three (Err e) P Q S R p q s f = tt

pub returns-in_default : goal.returns-in_default
returns-in_default g c =
    let none = rw c.in_default.is at c.in_ok-text.ensures.none in
    IfOk-weaker c.refuse_head.result (λ r. RefusesHead None r.answer r.error r.torn)
    (λ r. IsReplayAnswer (bytes_of c.args.shape) c.args.recorded.now (bytes_of c.args.image) c.args.first r.answer r.error r.torn)
    (λ r heads. no_head none.0 none.1 heads) c.refuse_head.ensures

pub returns-in-Err : goal.returns-in-Err
returns-in-Err g c =
    let text = c.as_slice.result.now in
    let named = subst (λ (t : List ℕ). IsShapeOf (bytes_of c.args.shape) c.args.recorded.now t) (sym c.as_slice.ensures.value)
    (rw c.in-Some.is at c.in_ok-text.ensures.some) in
    all_three c.refuse_rack.result (λ r. Refuses c.in-Err.refusal r.answer) (λ r. r.error ≡ None) (λ r. r.torn ≡ None)
    (λ r. IsReplayAnswer (bytes_of c.args.shape) c.args.recorded.now (bytes_of c.args.image) c.args.first r.answer r.error r.torn)
    c.refuse_rack.ensures.answer c.refuse_rack.ensures.error c.refuse_rack.ensures.torn
    (λ r refuses none whole. rack_wrong text c.in-Err.refusal named (c.in-Err.ensures.wrong refuses.0) refuses none whole)

pub answer_record-requires : goal.answer_record-requires
answer_record-requires g c =
    (search rules, body_within c.in-Ok.rack c.args.recorded.now c.in-Some-2.body.now c.in-Some-2.limit (rw c.in-Some-2.is at c.in_ok-body.ensures.some))

pub returns-in-Some-2 : goal.returns-in-Some-2
returns-in-Some-2 g c =
    let text = c.as_slice.result.now in
    let body = c.in-Some-2.body.now in
    let named = subst (λ (t : List ℕ). IsShapeOf (bytes_of c.args.shape) c.args.recorded.now t) (sym c.as_slice.ensures.value)
    (rw c.in-Some.is at c.in_ok-text.ensures.some) in
    IfOk-weaker c.answer_record.result (IsRecordAnswer c.in-Ok.rack c.args.recorded.now body c.in-Some-2.limit c.args.first)
    (λ r. IsReplayAnswer (bytes_of c.args.shape) c.args.recorded.now (bytes_of c.args.image) c.args.first r.answer r.error r.torn)
    (λ r is. replayed text body c.in-Ok.rack c.in-Some-2.limit named c.in-Ok.ensures.rack (rw c.in-Some-2.is at c.in_ok-body.ensures.some) is)
    c.answer_record.ensures

pub returns : goal.returns
returns g c =
    let text = c.as_slice.result.now in
    let named = subst (λ (t : List ℕ). IsShapeOf (bytes_of c.args.shape) c.args.recorded.now t) (sym c.as_slice.ensures.value)
    (rw c.in-Some.is at c.in_ok-text.ensures.some) in
    let due = option_map (λ line. line.items) c.in_ok-due-in-None.due in
    IfOk-weaker c.refuse_head-in-None.result (λ r. RefusesHead due r.answer r.error r.torn)
    (λ r. IsReplayAnswer (bytes_of c.args.shape) c.args.recorded.now (bytes_of c.args.image) c.args.first r.answer r.error r.torn)
    (λ r heads. other_head text c.in-Ok.rack due named c.in-Ok.ensures.rack (rw c.in-None.is at c.in_ok-body.ensures.none) c.in_ok-due-in-None.ensures heads)
    c.refuse_head-in-None.ensures
