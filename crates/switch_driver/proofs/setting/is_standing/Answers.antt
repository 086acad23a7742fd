use Rattle.std.proofs.Common.{◌≡◌, ◌==◌, ◌&&◌, ◌∙◌, [], ℕ, List, Option, Some, sym, ap, ap₂}
use Rattle.std.proofs.lemmas.Bool.Decides.{Decides-and, Decides-eqb}
use Rattle.std.proofs.lemmas.Slice.Eq.{slice_eq-Decides}
use Rattle.std.specs.Bool.{Decides}
use Rattle.std.specs.Prelude.{unwrap_or}
use Rattle.crossbar.specs.declared.pair.Pair.{Pair}
use Rattle.switch_driver.proofs.setting.is_standing.Goals as goal

pairs_Decides : (p q : Pair) → Decides (p.initiator == q.initiator && p.responder == q.responder) (p ≡ q)
pairs_Decides p q =
    let both = Decides-and _ _ (Decides-eqb p.initiator q.initiator) (Decides-eqb p.responder q.responder) in
    let pair : ℕ → ℕ → Pair = λ x y. record { initiator = x; responder = y } in (
      λ yes. ap₂ pair (both.0 yes).0 (both.0 yes).1,
      λ one. both.1 (ap (λ (x : Pair). x.initiator) one, ap (λ (x : Pair). x.responder) one),
    )

pub returns-in-Some : goal.returns-in-Some
returns-in-Some c =
    let same = slice_eq-Decides pairs_Decides c.as_slice.result.now c.args.pairs.now c.eq.result c.eq.ensures in (
      λ yes. c.in-Some.is ∙ ap (λ (ps : List Pair). Some ps) (sym c.as_slice.ensures.pairs ∙ same.0 yes),
      λ one. same.1 (c.as_slice.ensures.pairs ∙ ap (λ (o : Option (List Pair)). unwrap_or o []) (sym c.in-Some.is ∙ one)),
    )
