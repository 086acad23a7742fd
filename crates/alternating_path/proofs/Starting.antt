-- A link 0 at which a transfer starts has uses.
use Rattle.std.proofs.Common.{◌≡◌, ℕ, zero, suc, ◌<◌, List, [], ◌∷◌, length, get_or, Bool, true, cond, count_by, refl, arith, eq-eqb}
use Rattle.std.specs.Prelude.{◌==◌}
use Rattle.std.proofs.lemmas.List.Sums.{sum_by-cons}
use Rattle.batch.specs.declared.transfer.Transfer.{Transfer}
use Rattle.batch.specs.Overlap.{no_transfer}
use Rattle.link_graph.specs.declared.link.End.TheVariants.{Zero}
use Rattle.link_graph.specs.Counts.{uses}
use Rattle.alternating_path.specs.Ends.{link_at}
use Rattle.alternating_path.specs.Cells.{place_at}

counted : (p : Transfer → Bool) (g : List Transfer) (t : ℕ) (d : Transfer) → t < length g → p (get_or g t d) ≡ true → 0 < count_by p g
counted p [] t d t_in yes' = absurd (omega arith)
counted p (x ∷ g) zero d t_in yes' =
    let one : ◌≡◌ {A = ℕ} (cond (p x) 1 0) 1 = rw yes' refl in
    omega (arith, sum_by-cons (λ (y : Transfer). cond (p y) 1 0) x g, one)
counted p (x ∷ g) (suc t) d t_in yes' = omega (arith, sum_by-cons (λ (y : Transfer). cond (p y) 1 0) x g, counted p g t d (omega arith) yes')

pub used : (g : List Transfer) (t m : ℕ) → t < length g → place_at g t Zero ≡ m → 0 < uses g (record { end = Zero; «module» = m })
unfolding place_at link_at
used g t m t_in at = counted (λ x. x.initiator == m) g t no_transfer t_in (eq-eqb _ _ at)
