use Rattle.std.proofs.Common.{◌≡◌, ◌<◌, ◌∙◌, ℕ, List, IsTrue, false, true, length, subst, sym}
use Rattle.std.specs.Prelude.{All}
use Rattle.std.proofs.lemmas.List.{take_all}
use Rattle.std.proofs.lemmas.List.Elements.{All-more}
use Rattle.command_words.specs.declared.uses.FileUse.{FileUse}
use Rattle.named_files.specs.DistinctFiles.{IsOther}
use Rattle.named_files.proofs.distinct_files.barred_file.Goals as goal

pub loop-file-preserved : goal.loop-file-preserved
loop-file-preserved g c =
    let files = c.args.files.now in
    let leads = g.S.PathLookup.leads c.args.system.now in
    let file_id = c.args.file_id.now in
    let there = c.in_ok-there.there in
    let file = c.file-item.result in
    let below : c.loop-file.file-index < length files = c.loop-file-test.true in
    let other : IsOther leads file_id file = (
      there,
      subst (λ (n : List ℕ). leads n there) c.as_str.ensures c.in_ok-there.ensures,
      λ one. let t : IsTrue c.is_barred_seen.result = c.is_barred_seen.ensures.1 one in absurd (let bad : false ≡ true = sym c.if-is_barred_seen.false
          ∙ t in cc),
    ) in
    All-more (IsOther leads file_id) files c.loop-file.file-index file below c.loop-file.invariant (subst (IsOther leads file_id) c.file-item.is other)

pub returns : goal.returns
returns g c =
    subst (λ (xs : List FileUse). All (IsOther (g.S.PathLookup.leads c.args.system.now) c.args.file_id.now) xs)
    (take_all c.loop-file.file-index c.args.files.now c.loop-file-test.false) c.loop-file.invariant
