use Rattle.std.proofs.Common.{◌≡◌, ◌++◌, ap, ◌∙◌, List, ℕ, arith}
use Rattle.std.proofs.lemmas.Grind.{common_steps}
use Rattle.std.specs.List.{flat_map, range_with_len}
use Rattle.rack_answers.specs.Reports.{module_text}
use Rattle.batch.proofs.Lists.{more_parts}
use Rattle.rack_answers.proofs.report.report.Goals as goal

pub loop-module-preserved : goal.loop-module-preserved
loop-module-preserved c =
    let f = module_text c.args.batch.now c.args.rack.now in (
      (rw c.written_blocks-written.ensures at c.in_ok-push_module.ensures) ∙ ap (λ (x : List ℕ). x ++ f c.loop-module.«module») c.loop-module.invariant.0
          ∙ more_parts f c.push_changes.new.text.items c.loop-module.«module»,
      c.loop-module.invariant.1,
    )

pub returns : goal.returns
returns c =
    let all : c.loop-module.«module» ≡ c.args.rack.now.shape.modules = omega (arith, c.loop-module-test.false, c.loop-module.invariant.1, c.loop-module.auto) in
    let e : c.loop-module.text.items ≡ c.push_changes.new.text.items ++ flat_map (module_text c.args.batch.now c.args.rack.now)
    (range_with_len 0 c.args.rack.now.shape.modules) = rw all at c.loop-module.invariant.0 in
    let head = c.in_ok-format.ensures in
    let same = c.into_bytes-text.ensures in
    let told = c.in_ok-push_changes.ensures in
    grind (arith, common_steps)
