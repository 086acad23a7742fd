use Rattle.std.proofs.Common.{◌≡◌, ℕ, ◌<◌, IsSome, None, sym, ◌∙◌, ap, arith}
use Rattle.alternating_path.specs.Cells.{holder_at, place_at}
use Rattle.alternating_path.proofs.Shown.{held_by, read_cell, none_from}
use Rattle.alternating_path.proofs.Held.{all_taken, one_free}
use Rattle.alternating_path.proofs.table.Table.free_colour.Goals as goal

is_free : (c : goal.Then-is_none) → None ≡ holder_at c.self.inside.cells.items c.loop-colour.colour (place_at c.self.inside.graph.now c.args.t c.args.end)
is_free c =
    let s = c.self.inside in
    let read : c.index.result.now ≡ holder_at s.cells.items c.loop-colour.colour c.place_at-place.result =
    read_cell s.cells.items s.colours c.loop-colour.colour _ _ c.self.invariant.rows c.loop-colour-test.true c.place_at-place.ensures.below
    c.index.ensures in
    sym (none_from c.index.result.now c.if-is_none.ensures) ∙ read ∙ ap (holder_at s.cells.items c.loop-colour.colour) c.place_at-place.ensures.place

pub returns-then-is_none-clause-some : goal.returns-then-is_none-clause-some
returns-then-is_none-clause-some c =
    let s = c.self.inside in
    rw (← c.self.view_is) (
      c.loop-colour-test.true,
      held_by s.graph.now s.colours _ s.cells.items c.args.t c.loop-colour.colour c.args.end None c.self.invariant
          (is_free c),
    )

pub returns-then-is_none-clause-room : goal.returns-then-is_none-clause-room
returns-then-is_none-clause-room c =
    let s = c.self.inside in
    rw (← c.self.view_is) (one_free s.graph.now s.colours _ s.cells.items c.self.invariant c.args.t c.args.end c.loop-colour.colour c.loop-colour-test.true
    (sym (is_free c)))

pub returns-clause-none : goal.returns-clause-none
returns-clause-none c =
    let s = c.self.inside in
    let taken : (d : ℕ) → d < s.colours → IsSome (holder_at s.cells.items d (place_at s.graph.now c.args.t c.args.end)) =
    λ d d_in. rw (← c.place_at-place.ensures.place) (c.loop-colour.invariant.0 d (omega arith)) in
    rw (← c.self.view_is) (all_taken s.graph.now s.colours _ s.cells.items c.self.invariant c.args.t c.args.end taken)
