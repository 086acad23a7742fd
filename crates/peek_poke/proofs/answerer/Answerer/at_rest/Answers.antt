use Rattle.std.proofs.Common.{◌≡◌, ◌∙◌, ℕ, List, length, take, sym, ap, arith, length-take-le}
use Rattle.std.proofs.lemmas.Grind.{common_steps}
use Rattle.peek_poke.specs.Messages.{Pending}
use Rattle.peek_poke.proofs.answerer.Answerer.at_rest.Goals as goal

pub returns-then-not-self : goal.returns-then-not-self
returns-then-not-self c =
    let s = c.self.inside in
    let bytes : c.args.self.now.bytes ≡ take s.len s.bytes = ap (λ (p : Pending). p.bytes) (sym c.self.view_is) in (
      λ e. (ap (λ (p : Pending). p.failed) (sym c.self.view_is) ∙ c.if-not-self.true, grind (arith, common_steps)),
      λ r. let none : length (take s.len s.bytes) ≡ 0 = ap (λ (xs : List ℕ). length xs) (sym bytes ∙ r.1) in
          let whole = length-take-le s.len s.bytes (omega (arith, c.self.invariant.1, c.self.invariant.2)) in
          grind arith,
    )
