use Rattle.std.proofs.Common.{rules, ap, ◌∙◌, sym}
use Rattle.session_lists.proofs.Moves.{takes, adds, gives}
use Rattle.session_lists.proofs.keeper.Keeper.add.Goals as goal

pub join_seat-requires : goal.join_seat-requires
join_seat-requires g c = (
  search rules,
  search rules,
  search rules,
  search rules,
  takes g.E.SessionItem.session _ _ _ _ (ap (λ m. m.0.keeps) c.self.invariant.3)
      (ap (λ m. m.0.owns) c.own.invariant.1),
)

pub compare_exchange_with-requires : goal.compare_exchange_with-requires
compare_exchange_with-requires g c = (
  search rules,
  search rules,
  adds g.E.SessionItem.session _ _ _ c.self.inside.seat.me.0 c.own.inside.seat.me.0 _ _ c.join_seat.ensures.2 (ap (λ m. m.0.keeps) c.self.invariant.3)
      (ap (λ m. m.0.owns) c.own.invariant.1)
      (c.requires ∙ sym (ap (λ o. o.session) c.own.view_is)),
)

pub split_seat-own-requires : goal.split_seat-own-requires
split_seat-own-requires g c = (
  search rules,
  search rules,
  gives g.E.SessionItem.session _ _ (ap (λ m. m.0.owns) c.compare_exchange_with.ensures.2
      ∙ (ap (λ m. m.0.owns) c.join_seat.ensures.2 ∙ ap (λ m. m.0.owns) c.own.invariant.1)),
)
