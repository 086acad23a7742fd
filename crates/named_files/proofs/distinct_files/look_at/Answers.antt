use Rattle.std.proofs.Common.{◌<◌, Bool, List, false, length, subst}
use Rattle.std.specs.Prelude.{All}
use Rattle.std.proofs.lemmas.List.{take_all}
use Rattle.std.proofs.lemmas.List.Elements.{All-more}
use Rattle.command_words.specs.declared.uses.FileUse.{FileUse}
use Rattle.named_files.specs.DistinctFiles.{IsSeen}
use Rattle.named_files.proofs.distinct_files.look_at.Goals as goal

pub loop-other-preserved : goal.loop-other-preserved
loop-other-preserved g c =
    let others = c.args.others.now in
    let file = c.args.file.now in
    let i = c.loop-other.other-index in
    let other = c.other-item.result in
    let below : i < length others = c.loop-other-test.true in
    let leads = g.S.PathLookup.leads c.args.system.now in
    let seen : IsSeen leads other file false = subst (λ (is : Bool). IsSeen leads other file is) c.if-branch.false c.in_ok-clash.ensures in
    All-more (λ (x : FileUse). IsSeen leads x file false) others i other below c.loop-other.invariant
    (subst (λ (x : FileUse). IsSeen leads x file false) c.other-item.is seen)

pub returns-clause-apart : goal.returns-clause-apart
returns-clause-apart g c =
    let all = take_all c.loop-other.other-index c.args.others.now c.loop-other-test.false in
    subst (λ (xs : List FileUse). All (λ x. IsSeen (g.S.PathLookup.leads c.args.system.now) x c.args.file.now false) xs) all c.loop-other.invariant
