use Rattle.std.proofs.Common.{◌≡◌, ◌<◌, List, ap, arith, sym, subst, ◌∙◌, below_more, length}
use Rattle.std.proofs.lemmas.Bool.{false≢true}
use Rattle.batch.specs.Overlap.{transfer_at}
use Rattle.batch.specs.Places.{HasPlace, source_of, destination_of}
use Rattle.batch.specs.declared.transfer.Transfer.{Transfer}
use Rattle.setting_runner.proofs.ready.fits_in.Goals as goal

pub returns-then-not-has_blocks : goal.returns-then-not-has_blocks
returns-then-not-has_blocks c =
    let i = c.loop-transfer.transfer-index in
    let e : transfer_at c.args.batch.now i ≡ transfer_at c.as_slice-transfer-items.result.now i = ap (λ (ts : List Transfer). transfer_at ts i)
    (sym c.as_slice-transfer-items.ensures.value) in
    let below : i < length c.args.batch.now = omega (arith, c.loop-transfer-test.true, ap (length {A = Transfer}) c.as_slice-transfer-items.ensures.value) in (
      λ t. absurd (false≢true t),
      λ fits. (let yes = c.has_blocks.ensures.1 (subst (λ (y : Transfer). HasPlace c.args.shape (source_of y) × HasPlace c.args.shape (destination_of y)) e
          (fits i below)) in absurd (false≢true (sym c.if-not-has_blocks.true ∙ yes))),
    )

pub loop-transfer-preserved : goal.loop-transfer-preserved
loop-transfer-preserved c =
    let i = c.loop-transfer.transfer-index in
    let e : transfer_at c.args.batch.now i ≡ transfer_at c.as_slice-transfer-items.result.now i = ap (λ (ts : List Transfer). transfer_at ts i)
    (sym c.as_slice-transfer-items.ensures.value) in
    below_more _ _ c.loop-transfer.invariant (subst (λ (y : Transfer). HasPlace c.args.shape (source_of y) × HasPlace c.args.shape (destination_of y)) (sym e)
    (c.has_blocks.ensures.0 c.if-not-has_blocks.false))
