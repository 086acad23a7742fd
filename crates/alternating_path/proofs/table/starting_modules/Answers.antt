use Rattle.std.proofs.Common.{inl, inr, arith}
use Rattle.std.proofs.lemmas.Bool.{cases_lt}
use Rattle.link_graph.specs.declared.link.End.TheVariants.{Zero}
use Rattle.alternating_path.specs.Cells.{place_at}
use Rattle.alternating_path.proofs.Links.{start_low}
use Rattle.alternating_path.proofs.Starting.{used}
use Rattle.alternating_path.proofs.table.starting_modules.Goals as goal
use Rattle.alternating_path.proofs.table.starting_modules.Goals.{then-uses-gt0, else-uses-gt0}

pub loop-module-preserved : goal.loop-module-preserved
loop-module-preserved c =
    let i = c.loop-module.invariant in
    elim c.if-uses-gt0.branch [
      | then-uses-gt0 w ↦ rw w.count-is (record { few = omega arith; below = λ t t_in less. less })
      | else-uses-gt0 w ↦ rw w.count-is (record {
        few = omega (arith, i.few);
        below = λ t t_in less. elim (cases_lt (place_at c.args.graph.now t Zero) c.loop-module.«module») [
          | inl before ↦ i.below t t_in before
          | inr here ↦ absurd (omega (arith, used c.args.graph.now t c.loop-module.«module» t_in (omega arith), c.uses.ensures, w.if-uses-gt0.false))
        ];
      })
    ]

pub returns-clause-all : goal.returns-clause-all
returns-clause-all c = λ t t_in. c.loop-module.invariant.below t t_in (omega (arith, start_low c.args.graph.now t c.requires))
