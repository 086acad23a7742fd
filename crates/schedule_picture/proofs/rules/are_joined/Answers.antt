use Rattle.std.proofs.Common.{◌==◌, ◌&&◌, ◌∙◌, ◌∷◌, [], ℕ, rules, tests}
use Rattle.std.proofs.lemmas.Iterator.{YieldsList-from_slice}
use Rattle.std.proofs.lemmas.Iterator.Search.{any_from_yields_List}
use Rattle.link_graph.specs.Marks.{members}
use Rattle.steady_schedule.specs.Changes.{are_partners}
use Rattle.schedule_picture.proofs.OneByOne.{any_one_by_one}
use Rattle.schedule_picture.proofs.rules.are_joined.Goals as goal

pub returns : goal.returns
returns c =
    any_from_yields_List (λ (t : ℕ). are_partners (members c.args.transfers.now (t ∷ [])) c.args.start c.args.answer) _ _ _ c.any.ensures.ran
    (YieldsList-from_slice c.args.setting.now cc) (λ x b q k. search (rules, tests))
    ∙ any_one_by_one (λ x. x.initiator == c.args.start && x.responder == c.args.answer) c.args.transfers.now c.args.setting.now
