use Rattle.std.proofs.Common.{◌≡◌, ◌+◌, ◌-◌, ◌∙◌, List, [], ℕ, get_or, slice_get, Some, refl, sym, ap, subst, arith}
use Rattle.link_graph.specs.Marks.{members}
use Rattle.steady_schedule.specs.Changes.{join_same}
use Rattle.steady_schedule.specs.Joined.{HaveResponders}
use Rattle.steady_schedule.proofs.Joined.{started, none_joined, change, counted_more, at_setting, joined_same}
use Rattle.steady_schedule.proofs.changing.count_changes.Goals as goal
use Rattle.steady_schedule.proofs.changing.count_changes.Goals.{then-not-join_same, else-not-join_same}

pub put_in-requires-clause-none : goal.put_in-requires-clause-none
put_in-requires-clause-none c = none_joined

pub loop-k-init : goal.loop-k-init
loop-k-init c =
    let first : slice_get c.args.schedule.now 0 ≡ Some c.in-Some.first.now = sym (c.in-Some.ensures {u = tt}) in
    let s = started c.args.graph.now c.args.schedule.now c.in-Some.first.now first in
    record {
      counted = s.0;
      few = omega arith;
      before = sym s.1;
      joined = subst (λ (x : List ℕ). HaveResponders (members c.args.graph.now x) c.put_in.new.joined) (sym s.1) c.put_in.ensures;
    }

pub loop-k-preserved : goal.loop-k-preserved
loop-k-preserved c =
    let batch = c.args.graph.now in
    let settings = c.args.schedule.now in
    let k = c.loop-k.k in
    let setting = c.unwrap-setting.result.now in
    let here : slice_get settings k ≡ Some setting = sym (rw c.unwrap-setting.ensures at c.setting-in-loop-k.ensures) in
    let same : c.join_same.result ≡ join_same batch (get_or settings (k - 1) []) setting = c.join_same.ensures ∙ ap (λ (b : List ℕ). join_same batch b setting)
    c.loop-k.invariant.before in
    let counts : c.if-not-join_same.count ≡ c.loop-k.count + change c.join_same.result = elim c.if-not-join_same.branch [
      | then-not-join_same w ↦ omega (arith, w.count-is, ap change w.if-not-join_same.true)
      | else-not-join_same w ↦ omega (arith, w.count-is, ap change w.if-not-join_same.false)
    ] in
    let joined : HaveResponders (members batch setting) c.if-not-join_same.joined = elim c.if-not-join_same.branch [
      | then-not-join_same w ↦ rw w.joined-is w.put_in-then-not-join_same.ensures
      | else-not-join_same w ↦ rw w.joined-is (joined_same batch (get_or settings (k - 1) []) setting c.loop-k.joined (sym same ∙ w.if-not-join_same.false)
          c.loop-k.invariant.joined)
    ] in
    let at = at_setting settings k setting here in
    rw at
    (record {
      counted = counted_more batch settings k c.loop-k.count c.if-not-join_same.count setting c.join_same.result (omega arith) here same counts
          c.loop-k.invariant.counted;
      few = elim c.if-not-join_same.branch [
        | then-not-join_same w ↦ omega (arith, c.loop-k.invariant.few, w.count-is)
        | else-not-join_same w ↦
            omega (arith, c.loop-k.invariant.few, w.count-is)
      ];
      before = refl;
      joined = joined;
    })
