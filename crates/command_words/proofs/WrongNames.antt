-- Files of which one is misnamed may not have their names.
use Rattle.std.proofs.Common.{List, get_or, subst}
use Rattle.std.proofs.lemmas.Option.{get_or_from_slice_get, slice_get_within}
use Rattle.command_words.specs.declared.outputs.NameFault.{NameFault}
use Rattle.command_words.specs.declared.outputs.NameFault.TheVariants.{Input, OneName}
use Rattle.command_words.specs.declared.uses.FileUse.{FileUse}
use Rattle.command_words.specs.Jobs.{HaveNames, HaveTwoNames, MayHaveName}
use Rattle.command_words.specs.Names.{IsMisnamed}

pub no_names : (files : List FileUse) (why : NameFault) → IsMisnamed files why → HaveNames files → ⊥
no_names files (Input it) is names =
    let file = it.now in
    let i = is.0 in
    is.2 (subst MayHaveName (get_or_from_slice_get files i file file is.1) (names.each i file (slice_get_within files i file is.1)))
no_names files (OneName one other) is names =
    let first = one.now in
    let later = other.now in
    let k = is.0 in
    let i = is.1 in
    let both : HaveTwoNames (get_or files k first) (get_or files i first) = names.apart k i first is.2 (slice_get_within files i later is.4) in
    is.5 (subst (λ (x : FileUse). HaveTwoNames first x) (get_or_from_slice_get files i later first is.4)
    (subst (λ (x : FileUse). HaveTwoNames x (get_or files i first)) (get_or_from_slice_get files k first first is.3) both))
