use Rattle.std.proofs.Common.{◌<◌, ◌^◌, take, get_or, sym, subst, arith, rules}
use Rattle.std.proofs.lemmas.Grind.{common_steps}
use Rattle.std.proofs.lemmas.List.{take_more}
use Rattle.module_memory.proofs.Images.{AreSmall, words_more}
use Rattle.module_memory.proofs.rack.Rack.image.Goals as goal

pub loop-block-preserved : goal.loop-block-preserved
loop-block-preserved c =
    let blocks = c.blocks-block-items.result.now in
    let k = c.loop-block.block-index in
    let block = c.block-item.result in
    record {
      bytes = grind (arith, common_steps);
      words = subst AreSmall (sym (take_more blocks k block (search rules)))
          (words_more (take k blocks) (get_or blocks k block)
          (λ j. subst (λ b. get_or b j 0 < 2 ^ 32) c.block-item.is (c.in_ok-write_bytes.ensures.words j)) c.loop-block.invariant.words);
    }

pub returns-clause-image : goal.returns-clause-image
returns-clause-image c = grind (arith, common_steps)
