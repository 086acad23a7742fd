use Rattle.std.proofs.Common.{◌∙◌, ◌∷◌, [], ℕ, rules, tests}
use Rattle.std.proofs.lemmas.Iterator.{YieldsList-from_slice}
use Rattle.std.proofs.lemmas.Iterator.Search.{all_from_yields_List}
use Rattle.link_graph.specs.Marks.{members}
use Rattle.steady_schedule.specs.Changes.{are_partners, join_within}
use Rattle.schedule_picture.proofs.OneByOne.{all_one_by_one}
use Rattle.schedule_picture.proofs.rules.join_within.Goals as goal

pub returns : goal.returns
returns c =
    all_from_yields_List (λ (t : ℕ). join_within (members c.args.transfers.now (t ∷ [])) (members c.args.transfers.now c.args.other.now)) _ _ _
    c.all.ensures.ran (YieldsList-from_slice c.args.setting.now cc) (λ x b q k. search (rules, tests))
    ∙ all_one_by_one (λ x. are_partners (members c.args.transfers.now c.args.other.now) x.initiator x.responder) c.args.transfers.now c.args.setting.now
