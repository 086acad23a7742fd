use Rattle.std.proofs.Common.{rules, [], ap, ◌∙◌}
use Rattle.session_lists.specs.Lists.{keeper}
use Rattle.session_lists.proofs.Moves.{opens, gives}
use Rattle.session_lists.proofs.keeper.Keeper.deal.Goals as goal

pub load-requires : goal.load-requires
load-requires g c =
    let empty = ap (λ k. k.history) c.self.view_is ∙ c.requires in
    (search rules, search rules, opens g.E.SessionItem.session _ _ _ _ (c.self.invariant.3 ∙ ap (λ es. (keeper es c.self.inside.seat.me.0.dealt, [])) empty))

pub split_seat-own-requires : goal.split_seat-own-requires
split_seat-own-requires g c = (search rules, search rules, gives g.E.SessionItem.session _ _ (ap (λ m. m.0.owns) c.load.ensures.2))
