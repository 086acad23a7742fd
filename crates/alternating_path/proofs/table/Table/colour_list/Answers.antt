use Rattle.std.proofs.Common.{◌≡◌, ◌<◌, None, length, replicate, ap, ◌∙◌, rules, arith}
use Rattle.std.proofs.lemmas.List.{take_at}
use Rattle.alternating_path.specs.Colouring.{Colouring, IsProper}
use Rattle.alternating_path.proofs.Noted.{none_listed, next_listed, all_listed}
use Rattle.alternating_path.proofs.Shown.{cells_proper}
use Rattle.alternating_path.proofs.Writes.{some_within}
use Rattle.alternating_path.proofs.table.Table.colour_list.Goals as goal

pub loop-colour-init : goal.loop-colour-init
loop-colour-init c =
    let list : c.in_ok-list.list.items ≡ replicate c.len-count.result None = search (rules, c.in_ok-list.ensures) in
    rw (← c.self.view_is, list, c.len-count.ensures.value) (
      none_listed _ _ c.self.invariant.sized,
      omega (arith, c.tick_many.ensures, c.len-count.ensures.value),
    )

pub starts-requires-clause-all : goal.starts-requires-clause-all
starts-requires-clause-all c = rw (← c.self.view_is) c.starting_modules-modules.ensures.all

pub note_class-requires : goal.note_class-requires
note_class-requires c = λ m t at.
    let within : t < length c.args.self.now.colour = some_within _ t _ (c.starts.ensures.starts.back m t at).0 in
    rw (c.deref_mut.ensures.value, c.loop-colour.invariant.0.sized) within

pub loop-colour-preserved : goal.loop-colour-preserved
loop-colour-preserved c =
    let sized : length c.note_class.new.list ≡ c.loop-colour.list.len = c.note_class.ensures.noted.sized ∙ c.deref_mut.ensures.len in
    let noted = rw c.deref_mut.ensures.value at c.note_class.ensures.noted in
    rw (take_at c.note_class.new.list _ _ sized) (
      next_listed c.args.self.now c.loop-colour.colour c.starts.result.now c.loop-colour.list.items
          c.note_class.new.list c.starts.ensures.starts c.loop-colour.invariant.0 noted,
      omega (arith, c.loop-colour.invariant.1, c.note_class.ensures.cost, c.starts.ensures.few),
    )

pub returns-clause-list : goal.returns-clause-list
returns-clause-list c =
    let proper : IsProper c.args.self.now.batch c.args.self.now.colours c.args.self.now.colour =
    rw (← c.self.view_is) (cells_proper _ _ _ _ c.self.invariant) in
    let colours : c.self.inside.colours ≡ c.args.self.now.colours = ap (λ (s : Colouring). s.colours) c.self.view_is in
    all_listed c.args.self.now _ c.loop-colour.colour proper c.loop-colour.invariant.0 (omega (arith, colours))

pub returns-clause-cost : goal.returns-clause-cost
returns-clause-cost c =
    let colours : c.self.inside.colours ≡ c.args.self.now.colours = ap (λ (s : Colouring). s.colours) c.self.view_is in
    omega (arith, colours, c.loop-colour.invariant.1)
