use Rattle.std.proofs.Common.{◌≡◌, length, ap, ◌∙◌, arith, rules}
use Rattle.link_graph.specs.Schedules.{lists_of}
use Rattle.alternating_path.specs.Colouring.{AllPlaced, IsProper, Colouring}
use Rattle.alternating_path.specs.Classes.{ColouredSettings}
use Rattle.alternating_path.proofs.Shown.{cells_proper}
use Rattle.alternating_path.proofs.FirstSeen.{is_schedule}
use Rattle.alternating_path.proofs.table.Table.into_schedule_in_steps.Goals as goal

pub classes-requires : goal.classes-requires
classes-requires c =
    let proper : IsProper c.args.self.batch c.args.self.colours c.args.self.colour = rw (← c.self.view_is) (cells_proper _ _ _ _ c.self.invariant) in
    let colour : c.as_slice.result.now ≡ c.args.self.colour = c.as_slice.ensures.value ∙ c.in_ok-colour.ensures.list in
    let colours : c.self.inside.colours ≡ c.args.self.colours = ap (λ (s : Colouring). s.colours) c.self.view_is in
    rw (colour, colours) proper.below

pub returns-clause-schedule : goal.returns-clause-schedule
returns-clause-schedule c = λ (all : AllPlaced c.args.self).
    let proper : IsProper c.args.self.batch c.args.self.colours c.args.self.colour = rw (← c.self.view_is) (cells_proper _ _ _ _ c.self.invariant) in
    let colour : c.as_slice.result.now ≡ c.args.self.colour = c.as_slice.ensures.value ∙ c.in_ok-colour.ensures.list in
    let settings : c.of.result.settings ≡ lists_of c.in_ok-lists.lists.items = ap (λ (s : ColouredSettings). s.settings) c.of.ensures in
    rw settings (is_schedule c.args.self.batch c.args.self.colours c.args.self.colour (lists_of c.in_ok-lists.lists.items) proper
    (rw colour at c.in_ok-lists.ensures.classes) (rw colour at c.in_ok-lists.ensures.once) all)

pub returns-clause-inserted : goal.returns-clause-inserted
returns-clause-inserted c = search rules

pub returns-in_err-lists-clause-cost : goal.returns-in_err-lists-clause-cost
returns-in_err-lists-clause-cost c =
    let proper : IsProper c.args.self.batch c.args.self.colours c.args.self.colour = rw (← c.self.view_is) (cells_proper _ _ _ _ c.self.invariant) in
    let colour : c.as_slice.result.now ≡ c.args.self.colour = c.as_slice.ensures.value ∙ c.in_ok-colour.ensures.list in
    let colours : c.self.inside.colours ≡ c.args.self.colours = ap (λ (s : Colouring). s.colours) c.self.view_is in
    omega (arith, c.colour_list.ensures.cost, c.classes.ensures.cost, ap length colour, proper.sized, colours)

pub returns-clause-cost : goal.returns-clause-cost
returns-clause-cost c =
    let proper : IsProper c.args.self.batch c.args.self.colours c.args.self.colour = rw (← c.self.view_is) (cells_proper _ _ _ _ c.self.invariant) in
    let colour : c.as_slice.result.now ≡ c.args.self.colour = c.as_slice.ensures.value ∙ c.in_ok-colour.ensures.list in
    let colours : c.self.inside.colours ≡ c.args.self.colours = ap (λ (s : Colouring). s.colours) c.self.view_is in
    omega (arith, c.colour_list.ensures.cost, c.classes.ensures.cost, ap length colour, proper.sized, colours)
