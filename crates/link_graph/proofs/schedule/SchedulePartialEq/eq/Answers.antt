use Rattle.std.proofs.Common.{ℕ, ◌==◌, refl, sym, ◌∙◌}
use Rattle.std.specs.Global.{Vec}
use Rattle.std.specs.Cmp.Derive.Mapped.{pointwise-map}
use Rattle.std.specs.Cmp.Lexicographic.{pointwise}
use Rattle.std.proofs.lemmas.Bool.Decides.{Decides-eqb}
use Rattle.std.proofs.lemmas.Slice.Eq.{slice_eq-Decides}
use Rattle.link_graph.proofs.schedule.SchedulePartialEq.eq.Goals as goal

pub returns-clause-value : goal.returns-clause-value
returns-clause-value c = rw (← c.self.view_is, ← c.other.view_is)
    (c.eq.ensures ∙ sym (pointwise-map (λ (v : Vec ℕ). v.items) (pointwise ◌==◌) c.self.inside.lists.items c.other.inside.lists.items))

pub returns-clause-equal : goal.returns-clause-equal
returns-clause-equal c = slice_eq-Decides (λ ts us. slice_eq-Decides Decides-eqb ts us _ refl) c.args.self.now c.args.other.now c.eq.result
    (returns-clause-value c)
