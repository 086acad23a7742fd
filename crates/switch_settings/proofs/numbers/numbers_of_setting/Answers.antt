use Rattle.std.proofs.Common.{◌≡◌, ◌<◌, ◌≤◌, ℕ, List, [], Some, length, subst, arith}
use Rattle.std.specs.Prelude.{All}
use Rattle.std.specs.List.{slice_get}
use Rattle.std.proofs.lemmas.Option.{get_or_from_slice_get}
use Rattle.batch.specs.declared.limits.TheConstants.{MAX_MODULES}
use Rattle.link_graph.specs.Uses.{IsMatching}
use Rattle.switch_settings.specs.Settings.{numbers_in}
use Rattle.switch_settings.proofs.Joined.{matching_few}
use Rattle.switch_settings.proofs.numbers.numbers_of_setting.Goals as goal
use Rattle.switch_settings.proofs.numbers.numbers_of_setting.Goals.{After-unwrap}

-- they are the setting's
numbers : (c : After-unwrap) → numbers_in c.args.schedule.now c.args.setting ≡ c.unwrap.result.now
numbers c =
    let got : slice_get c.args.schedule.now c.args.setting ≡ Some c.unwrap.result.now = grind arith in
    get_or_from_slice_get c.args.schedule.now c.args.setting c.unwrap.result.now [] got

pub returns-clause-few : goal.returns-clause-few
returns-clause-few c =
    let same = numbers (goal.at.returns-clause-few c).After-unwrap in
    let batch = c.args.batch.now in
    let given = c.requires.schedule in
    let k = c.args.setting in
    let within = c.requires.within in
    subst (λ (ts : List ℕ). length ts ≤ MAX_MODULES) same (matching_few batch (numbers_in c.args.schedule.now k) c.as_slice-batch.ensures.batch
    (given.no_other k [] within) (given.matchings k [] within))

pub returns-clause-known : goal.returns-clause-known
returns-clause-known c =
    let same = numbers (goal.at.returns-clause-known c).After-unwrap in
    subst (All (λ t. t < length c.args.batch.now)) same (c.requires.schedule.no_other c.args.setting [] c.requires.within)

pub returns-clause-matching : goal.returns-clause-matching
returns-clause-matching c =
    let same = numbers (goal.at.returns-clause-matching c).After-unwrap in
    subst (IsMatching c.args.batch.now) same (c.requires.schedule.matchings c.args.setting [] c.requires.within)
