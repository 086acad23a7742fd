use Rattle.std.proofs.Common.{inl, inr, get_or, arith}
use Rattle.std.proofs.lemmas.Bool.{cases_lt}
use Rattle.std.proofs.lemmas.Option.{slice_get-get_or}
use Rattle.link_graph.specs.Counts.{module_at}
use Rattle.link_graph.proofs.Tables.{module_fits, modules_of}
use Rattle.schedule_certificate.proofs.Widths.{used_at}
use Rattle.schedule_certificate.proofs.degree.modules_at.Goals as goal
use Rattle.schedule_certificate.proofs.degree.modules_at.Goals.{then-uses-gt0, else-uses-gt0}

pub loop-module-preserved : goal.loop-module-preserved
loop-module-preserved c = elim c.if-uses-gt0.branch [
  | then-uses-gt0 w ↦ rw w.count-is (λ t d t_in less. less)
  | else-uses-gt0 w ↦ rw w.count-is (λ t d t_in less. elim (cases_lt (module_at c.args.end (get_or c.args.graph.now t d)) c.loop-module.«module») [
    | inl before ↦ c.loop-module.invariant t d t_in before
    | inr here ↦ absurd (omega (arith, used_at c.args.graph.now c.args.end t c.loop-module.«module» d t_in (omega arith), c.uses.ensures, w.if-uses-gt0.false))
  ])
]

pub returns : goal.returns
returns c = λ t d t_in.
    let fits = modules_of c.args.graph.now t (get_or c.args.graph.now t d) (slice_get-get_or c.args.graph.now t d t_in) c.len.ensures.batch in
    c.loop-module.invariant t d t_in (omega (arith, module_fits c.args.end (get_or c.args.graph.now t d) fits))
