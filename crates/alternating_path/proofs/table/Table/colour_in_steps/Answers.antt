use Rattle.std.proofs.Common.{ℕ, ◌≡◌, ◌≢◌, ◌<◌, Some, sym, ap, ◌∙◌, arith}
use Rattle.alternating_path.specs.Cells.{holder_at, place_at}
use Rattle.alternating_path.proofs.Shown.{cells_proper, not_shown, read_cell}
use Rattle.alternating_path.proofs.table.Table.colour_in_steps.Goals as goal

pub returns-then-t-len-clause-proper : goal.returns-then-t-len-clause-proper
returns-then-t-len-clause-proper c = rw (← c.self.view_is) (cells_proper _ _ _ _ c.self.invariant)

pub returns-then-from-t-clause-colour : goal.returns-then-from-t-clause-colour
returns-then-from-t-clause-colour c =
    let s = c.self.inside in
    let in_row = c.place_at-place.ensures.below in
    let read : c.index.result.now ≡ holder_at s.cells.items c.loop-colour.colour c.place_at-place.result =
    read_cell s.cells.items s.colours c.loop-colour.colour _ _ c.self.invariant.rows c.loop-colour-test.true in_row c.index.ensures in
    let held : holder_at s.cells.items c.loop-colour.colour c.place_at-place.result ≡ Some c.args.t = sym read
    ∙ (c.in-Some.is ∙ ap Some (sym c.from.ensures ∙ c.if-from-t.true)) in
    rw (← c.self.view_is) (sym (c.self.invariant.back c.loop-colour.colour _ c.args.t in_row held).0)

pub returns-then-from-t-clause-proper : goal.returns-then-from-t-clause-proper
returns-then-from-t-clause-proper c = rw (← c.self.view_is) (cells_proper _ _ _ _ c.self.invariant)

pub returns-clause-colour : goal.returns-clause-colour
returns-clause-colour c =
    let s = c.self.inside in
    let nowhere : (d : ℕ) → d < s.colours → holder_at s.cells.items d (place_at s.graph.now c.args.t _) ≢ Some c.args.t =
    λ d d_in. rw (← c.place_at-place.ensures.place) (c.loop-colour.invariant.0 d (omega arith)) in
    rw (← c.self.view_is) (not_shown s.graph.now s.colours _ s.cells.items c.args.t c.self.invariant nowhere)

pub returns-clause-proper : goal.returns-clause-proper
returns-clause-proper c = rw (← c.self.view_is) (cells_proper _ _ _ _ c.self.invariant)
