use Rattle.std.proofs.Common.{ℕ, List, Some}
use Rattle.std.proofs.lemmas.Bool.Decides.{Decides-eqb}
use Rattle.std.proofs.lemmas.Slice.Eq.{strip_prefix_is}
use Rattle.std.specs.Prelude.{codes}
use Rattle.exchange.proofs.Forewarned.{height_by}
use Rattle.exchange.proofs.warnings.height_of.Goals as goal

pub returns : goal.returns
returns c =
    let front : List ℕ = codes "<svg xmlns='http://www.w3.org/2000/svg' width='" in
    let middle : List ℕ = codes " height='" in
    height_by front middle c.args.text.now c.in_ok-size.size.now c.in_ok-after.after.now c.in_ok-rest.rest.now _ _ c.in_ok-height.height
    (strip_prefix_is Decides-eqb c.args.text.now front (Some c.in_ok-size.size) c.in_ok-size.ensures.cases) c.in_ok-after.ensures.some.1
    (strip_prefix_is Decides-eqb c.in_ok-after.after.now middle (Some c.in_ok-rest.rest) c.in_ok-rest.ensures.cases) c.in_ok-height.ensures.some.1
