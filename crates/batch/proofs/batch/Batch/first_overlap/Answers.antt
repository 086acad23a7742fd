use Rattle.std.proofs.Common.{subst, sym, ap, ◌∙◌, get_or, ◌-◌, None, Some, ℕ, length-set, arith, rules}
use Rattle.batch.specs.ShapeView.{widest}
use Rattle.batch.specs.Places.{HasPlace}
use Rattle.batch.proofs.FirstOverlap.{IsNextWriter, IsFirstFrom, none_next, next_more, first_alone, first_more}
use Rattle.batch.proofs.batch.Batch.first_overlap.Goals.{in-Some, in_default}
use Rattle.batch.proofs.batch.Batch.first_overlap.Goals as goal

pub loop-i-init : goal.loop-i-init
loop-i-init c = record {
  size = search rules;
  next = none_next c.as_slice-transfers.result.now;
  first = λ i j l o. absurd (omega (arith, o.ordered, o.within));
}

pub loop-i-preserved : goal.loop-i-preserved
loop-i-preserved c =
    let now = c.loop-i in
    let ts = c.as_slice-transfers.result.now in
    let p = c.destination.result in
    let k = c.widest_index-index.result in
    let at = c.widest_index-index.ensures.value in
    let here : HasPlace widest p = search rules in
    let next = subst (λ (x : ℕ). IsNextWriter ts now.i p (get_or now.next_writers x None)) (sym at) (now.invariant.next p here) in
    record {
      size = length-set now.next_writers k (Some (now.i - 1)) ∙ now.invariant.size;
      next = next_more ts now.i (omega arith) now.next_writers k p (omega arith) at c.destination.ensures here (omega arith) now.invariant.next;
      first = elim c.match-next_writers-index.branch [
        | in-Some w ↦
            let more = first_more ts now.i (omega arith) w.in-Some.j p c.destination.ensures (subst (IsNextWriter ts now.i p) w.in-Some.is next) in
            subst (IsFirstFrom ts (now.i - 1)) (ap (λ (x : ℕ). Some (now.i - 1, x)) (sym w.from.ensures) ∙ sym w.first-is) more
        | in_default w ↦
            let kept = first_alone ts now.i (omega arith) now.first p c.destination.ensures (subst (IsNextWriter ts now.i p) w.in_default.is next)
            now.invariant.first in
            subst (IsFirstFrom ts (now.i - 1)) (sym w.first-is) kept
      ];
    }
