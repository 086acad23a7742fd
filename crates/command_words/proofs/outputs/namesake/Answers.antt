use Rattle.std.proofs.Common.{◌≡◌, ◌∙◌, ◌<◌, List, Option, true, false, length, refl, sym, subst}
use Rattle.std.specs.Prelude.{All, MatchOption}
use Rattle.std.proofs.lemmas.List.{take_all}
use Rattle.std.proofs.lemmas.Option.{slice_get_read}
use Rattle.command_words.specs.declared.uses.FileUse.{FileUse}
use Rattle.command_words.specs.Jobs.{HaveTwoNames}
use Rattle.command_words.proofs.outputs.namesake.Goals as goal

pub returns-then-not-have_two_names-clause-some : goal.returns-then-not-have_two_names-clause-some
returns-then-not-have_two_names-clause-some c =
    let others = c.args.others.now in
    let file = c.args.file.now in
    let other = c.index-others-k.result in
    let below : c.loop-k.k < length others = c.loop-k-test.true in
    let clash : HaveTwoNames other file → ⊥ = λ two. (let bad : true ≡ false = sym (c.have_two_names.ensures.1 two) ∙ c.if-not-have_two_names.true in cc) in
    subst (λ (found : Option FileUse). MatchOption found ⊥ (λ x. HaveTwoNames x file → ⊥))
    (sym (slice_get_read others (length others) c.loop-k.k other refl below c.index-others-k.is)) clash

pub returns-clause-none : goal.returns-clause-none
returns-clause-none c =
    let all = take_all c.loop-k.k c.args.others.now c.loop-k-test.false in
    subst (λ (xs : List FileUse). All (λ x. HaveTwoNames x c.args.file.now) xs) all c.loop-k.invariant
