use Rattle.std.proofs.Common.{◌≡◌, ◌≤◌, ◌<◌, ◌/◌, ◌++◌, ℕ, List, length, take, drop, ◌∙◌, ap₂, rules, sym, subst, arith, take-append-drop}
use Rattle.batch.specs.declared.limits.TheConstants.{MAX_MODULES}
use Rattle.module_memory.specs.Lending.{BlockAt}
use Rattle.setting_runner.specs.Moves.{AreMovable, HaveMoved}
use Rattle.setting_runner.proofs.Moves.{HaveMoved-append, HaveMoved-length, AreMovable-length, AreMovable-take, AreMovable-drop}
use Rattle.setting_runner.proofs.work.+fn-move_all-join_mut+arg2+fn-move_all-join_mut+arg3+move_all.Goals as goal

pub split_at_mut-bays1-requires : goal.split_at_mut-bays1-requires
split_at_mut-bays1-requires g t c = omega (
  arith,
  AreMovable-length c.args.work.now.rest.now c.args.work.now.batch.now c.args.numbers.now c.args.bays.now
      c.requires.movable,
)

pub join_mut-moved1-requires-after_bounds : goal.join_mut-moved1-requires-after_bounds
join_mut-moved1-requires-after_bounds g t c =
    let middle = length c.args.numbers.now / 2 in
    let rest = c.args.work.now.rest.now in
    let batch = c.args.work.now.batch.now in
    let front : AreMovable c.args.work.now.rest.now c.args.work.now.batch.now c.split_at.result.0.now c.split_at_mut-bays1.result.0.now =
    subst (λ (x : List ℕ). AreMovable rest batch x c.split_at_mut-bays1.result.0.now) (sym c.split_at.ensures.front)
    (subst (λ (x : List BlockAt). AreMovable rest batch (take middle c.args.numbers.now) x) (sym c.split_at_mut-bays1.ensures.front)
    (AreMovable-take rest batch c.args.numbers.now c.args.bays.now middle c.requires.movable)) in
    let back : AreMovable c.args.work.now.rest.now c.args.work.now.batch.now c.split_at.result.1.now c.split_at_mut-bays1.result.1.now =
    subst (λ (x : List ℕ). AreMovable rest batch x c.split_at_mut-bays1.result.1.now) (sym c.split_at.ensures.back)
    (subst (λ (x : List BlockAt). AreMovable rest batch (drop middle c.args.numbers.now) x) (sym c.split_at_mut-bays1.ensures.back)
    (AreMovable-drop rest batch c.args.numbers.now c.args.bays.now middle c.requires.movable)) in
    let f1 : length c.split_at.result.0.now ≤ MAX_MODULES = omega arith in
    let f2 : length c.split_at.result.1.now ≤ MAX_MODULES = omega arith in
    let n1 : c.halves.result.0.count < c.args.workers.count = omega arith in
    let n2 : c.halves.result.1.count < c.args.workers.count = omega arith in
    let n3 : 0 < c.halves.result.0.count = omega arith in
    let n4 : 0 < c.halves.result.1.count = omega arith in
    search rules

pub and-requires : goal.and-requires
and-requires g t c =
    let one : HaveMoved (g.W.WireMaker.is_sure c.args.work.now.wires.now) c.args.work.now.rest.now c.args.work.now.batch.now c.split_at.result.0.now
    c.split_at_mut-bays1.result.0.now c.bays1-1.given.0 c.join_mut-moved1.result.0 = search rules in
    let two : HaveMoved (g.W.WireMaker.is_sure c.args.work.now.wires.now) c.args.work.now.rest.now c.args.work.now.batch.now c.split_at.result.1.now
    c.split_at_mut-bays1.result.1.now c.bays2-1.given.0 c.join_mut-moved1.result.1 = search rules in
    omega (arith, HaveMoved-length _ _ _ _ _ _ _ one, HaveMoved-length _ _ _ _ _ _ _ two)

pub returns : goal.returns
returns g t c =
    let sure = g.W.WireMaker.is_sure c.args.work.now.wires.now in
    let rest = c.args.work.now.rest.now in
    let batch = c.args.work.now.batch.now in
    let one : HaveMoved (g.W.WireMaker.is_sure c.args.work.now.wires.now) c.args.work.now.rest.now c.args.work.now.batch.now c.split_at.result.0.now
    c.split_at_mut-bays1.result.0.now c.bays1-1.given.0 c.join_mut-moved1.result.0 = search rules in
    let two : HaveMoved (g.W.WireMaker.is_sure c.args.work.now.wires.now) c.args.work.now.rest.now c.args.work.now.batch.now c.split_at.result.1.now
    c.split_at_mut-bays1.result.1.now c.bays2-1.given.0 c.join_mut-moved1.result.1 = search rules in
    let all = HaveMoved-append sure rest batch c.split_at.result.0.now c.split_at.result.1.now c.split_at_mut-bays1.result.0.now
    c.split_at_mut-bays1.result.1.now c.bays1-1.given.0 c.bays2-1.given.0 c.join_mut-moved1.result.0 c.join_mut-moved1.result.1 one two in
    let numbers : c.split_at.result.0.now ++ c.split_at.result.1.now ≡ c.args.numbers.now = ap₂ (λ (x : List ℕ) (y : List ℕ). x ++ y) c.split_at.ensures.front
    c.split_at.ensures.back ∙ take-append-drop _ c.args.numbers.now in
    let olds : c.split_at_mut-bays1.result.0.now ++ c.split_at_mut-bays1.result.1.now ≡ c.args.bays.now = sym c.split_at_mut-bays1.ensures.value in
    let news = c.bays1-1.given.0 ++ c.bays2-1.given.0 in
    subst (λ (m : List (ℕ × ℕ)). HaveMoved sure rest batch c.args.numbers.now c.args.bays.now news m) (sym c.and.ensures)
    (subst (λ (o : List BlockAt). HaveMoved sure rest batch c.args.numbers.now o news (c.join_mut-moved1.result.0 ++ c.join_mut-moved1.result.1)) olds
    (subst (λ (j : List ℕ). HaveMoved sure rest batch j (c.split_at_mut-bays1.result.0.now ++ c.split_at_mut-bays1.result.1.now) news
    (c.join_mut-moved1.result.0 ++ c.join_mut-moved1.result.1)) numbers all))
