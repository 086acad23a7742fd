use Rattle.std.proofs.Common.{◌≡◌, ℕ, ◌-◌, List, Option, ap, arith}
use Rattle.alternating_path.specs.Colouring.{Colouring}
use Rattle.alternating_path.proofs.Removed.{removed_show, removed_colours}
use Rattle.alternating_path.proofs.Smallest.{taken_back}
use Rattle.alternating_path.proofs.Shown.{cells_proper}
use Rattle.alternating_path.proofs.table.Table.take_back_in_steps.Goals as goal

pub smallest_class-colour-requires-clause-all : goal.smallest_class-colour-requires-clause-all
smallest_class-colour-requires-clause-all c = rw (← c.self.view_is) c.starting_modules-modules.ensures.all

pub starts-requires-clause-all : goal.starts-requires-clause-all
starts-requires-clause-all c = rw (← c.self.view_is) c.starting_modules-modules.ensures.all

pub invariant_of-table : goal.invariant_of-table
invariant_of-table c =
    let s = c.self.inside in
    let smallest = rw (← c.self.view_is) at c.smallest_class-colour.ensures.smallest in
    removed_show s.graph.now s.colours c.smallest_class-colour.result s.cells.items _ c.self.invariant smallest.is_one c.in_ok-remove_row.ensures.sized
    c.in_ok-remove_row.ensures.before c.in_ok-remove_row.ensures.behind

pub returns-clause-proper : goal.returns-clause-proper
returns-clause-proper c =
    let s = c.self.inside in
    let smallest = rw (← c.self.view_is) at c.smallest_class-colour.ensures.smallest in
    cells_proper _ _ _ _ (removed_show s.graph.now s.colours c.smallest_class-colour.result s.cells.items _ c.self.invariant smallest.is_one
    c.in_ok-remove_row.ensures.sized c.in_ok-remove_row.ensures.before c.in_ok-remove_row.ensures.behind)

pub returns-clause-taken : goal.returns-clause-taken
returns-clause-taken c =
    let s = c.self.inside in
    let smallest = rw (← c.self.view_is) at c.smallest_class-colour.ensures.smallest in
    let starts = rw (← c.self.view_is) at c.starts.ensures.starts in
    let colours = removed_colours s.graph.now s.colours c.smallest_class-colour.result s.cells.items _ c.self.invariant smallest.is_one
    c.in_ok-remove_row.ensures.sized c.in_ok-remove_row.ensures.before c.in_ok-remove_row.ensures.behind in
    rw (← c.self.view_is) (taken_back _ _ c.smallest_class-colour.result c.starts.result.now c.in_ok-class.class.items smallest starts
    c.in_ok-class.ensures.class
    (ap (λ (f : List (Option ℕ)). let v : Colouring = record { batch = s.graph.now; colours = s.colours - 1; colour = f; inserted = s.inserted } in v) colours))

pub returns-in_err-class-clause-cost : goal.returns-in_err-class-clause-cost
returns-in_err-class-clause-cost c = omega (arith, c.smallest_class-colour.ensures.cost, c.starts.ensures.few, c.class_of.ensures.cost)

pub returns-in_err-remove_row-clause-cost : goal.returns-in_err-remove_row-clause-cost
returns-in_err-remove_row-clause-cost c =
    let colours : c.self.inside.colours ≡ c.args.self.colours = ap (λ (s : Colouring). s.colours) c.self.view_is in
    omega (
      arith,
      colours,
      c.self.invariant.rows,
      c.smallest_class-colour.ensures.cost,
      c.starts.ensures.few,
      c.class_of.ensures.cost,
      c.remove_row.ensures.cost,
    )

pub returns-clause-cost : goal.returns-clause-cost
returns-clause-cost c =
    let colours : c.self.inside.colours ≡ c.args.self.colours = ap (λ (s : Colouring). s.colours) c.self.view_is in
    omega (
      arith,
      colours,
      c.self.invariant.rows,
      c.smallest_class-colour.ensures.cost,
      c.starts.ensures.few,
      c.class_of.ensures.cost,
      c.remove_row.ensures.cost,
    )
