use Rattle.std.proofs.Common.{◌<◌, false, length, get_or, take, sym, subst}
use Rattle.std.specs.Prelude.{All, AllPairs}
use Rattle.std.proofs.lemmas.List.{take_all, take_more}
use Rattle.std.proofs.lemmas.List.Quantifiers.{all_pairs_push}
use Rattle.command_words.specs.declared.uses.FileUse.{FileUse}
use Rattle.named_files.specs.DistinctFiles.{HaveNoClash, IsSeen}
use Rattle.named_files.proofs.distinct_files.look_through.Goals as goal

pub loop-i-preserved : goal.loop-i-preserved
loop-i-preserved g c =
    let files = c.args.files.now in
    let i = c.loop-i.i in
    let below : i < length files = c.loop-i-test.true in
    let file = c.index-files-i.result in
    let leads = g.S.PathLookup.leads c.args.system.now in
    let Apart : FileUse → FileUse → Type 0 = λ one other. IsSeen leads one other false in
    let new : All (λ other. Apart other file) (take i files) = c.in_ok-look_at.ensures.apart in
    let apart = subst (λ (x : FileUse). All (λ other. Apart other x) (take i files)) c.index-files-i.is new in
    subst (AllPairs Apart) (sym (take_more files i file below)) (all_pairs_push Apart (take i files) (get_or files i file) c.loop-i.invariant apart)

pub returns-clause-apart : goal.returns-clause-apart
returns-clause-apart g c =
    subst (HaveNoClash (g.S.PathLookup.leads c.args.system.now)) (take_all c.loop-i.i c.args.files.now c.loop-i-test.false) c.loop-i.invariant
