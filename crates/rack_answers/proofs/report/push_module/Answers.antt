use Rattle.std.proofs.Common.{◌++◌, ap, ◌∙◌, List, ℕ}
use Rattle.rack_answers.specs.Reports.{block_text}
use Rattle.batch.proofs.Lists.{more_parts}
use Rattle.rack_answers.proofs.report.push_module.Goals as goal

pub loop-block-preserved : goal.loop-block-preserved
loop-block-preserved c =
    let f = block_text c.args.written.now c.args.rack.now c.args.«module» in (
      c.in_ok-push_block.ensures ∙ ap (λ (x : List ℕ). x ++ f c.loop-block.block) c.loop-block.invariant.0 ∙ more_parts f c.args.text.now.items
          c.loop-block.block,
      c.loop-block.invariant.1,
    )
