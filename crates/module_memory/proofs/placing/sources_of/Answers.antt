use Rattle.std.proofs.Common.{◌≡◌, ◌<◌, ◌*◌, List, ℕ, length, sym, ap, ap₂, ◌∙◌, arith, subst}
use Rattle.std.specs.List.{range_with_len}
use Rattle.batch.specs.Overlap.{destination_at, source_at, transfer_at}
use Rattle.batch.specs.Places.{destination_of, place_index, source_of}
use Rattle.batch.specs.declared.transfer.Transfer.{Transfer}
use Rattle.module_memory.proofs.PlacedImages.{AreSourcesUpTo, own_sources, sources_all, sources_more}
use Rattle.module_memory.proofs.placing.sources_of.Goals as goal

pub loop-transfer-init : goal.loop-transfer-init
loop-transfer-init c =
    let shape = c.args.shape in
    let count : c.modules.result * c.blocks-2.result ≡ shape.modules * shape.blocks = ap₂ (λ (x y : ℕ). x * y) c.modules.ensures.value
    c.blocks-2.ensures.value in
    subst (AreSourcesUpTo shape c.args.batch.now 0) (sym (c.in_ok-sources.ensures ∙ ap (range_with_len 0) count)) (own_sources shape c.args.batch.now)

pub loop-transfer-preserved : goal.loop-transfer-preserved
loop-transfer-preserved c =
    let ts = c.args.batch.now in
    let n = c.loop-transfer.transfer-index in
    let same = c.as_slice-transfer-items.ensures.value in
    let below : n < length ts = omega (arith, c.loop-transfer-test.true, ap (length {A = Transfer}) same) in
    let to : c.destination.result ≡ destination_at ts n = c.destination.ensures ∙ ap (λ (x : List Transfer). destination_of (transfer_at x n)) same in
    let from : c.source.result ≡ source_at ts n = c.source.ensures ∙ ap (λ (x : List Transfer). source_of (transfer_at x n)) same in
    sources_more c.args.shape ts n c.block_index-to.result c.block_index.result c.loop-transfer.sources.items below c.requires.fits c.requires.apart
    (c.block_index-to.ensures.value ∙ ap (place_index c.args.shape) to) (c.block_index.ensures.value ∙ ap (place_index c.args.shape) from)
    c.loop-transfer.invariant

pub returns : goal.returns
returns c =
    let same = c.as_slice-transfer-items.ensures.value in
    sources_all c.args.shape c.args.batch.now c.loop-transfer.transfer-index c.loop-transfer.sources.items
    (omega (arith, c.loop-transfer-test.false, c.loop-transfer.auto.transfer-index-end, ap (length {A = Transfer}) same)) c.loop-transfer.invariant
