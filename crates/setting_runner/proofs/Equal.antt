-- Equal lists of what transfers have moved are one list.
use Rattle.std.proofs.Common.{◌≡◌, ℕ, true, false, ◌&&◌, ◌∷◌, [], List, refl, ap₂}
use Rattle.std.specs.Prelude.{◌==◌}
use Rattle.std.proofs.lemmas.Bool.{eqb-true, eq-eqb, false≢true, and_parts}
use Rattle.setting_runner.specs.Equal.{same_moved}

pub same_moved_is : (xs ys : List (ℕ × ℕ)) → same_moved xs ys ≡ true → xs ≡ ys
same_moved_is [] [] e = refl
same_moved_is [] (y ∷ ys) e = absurd (false≢true e)
same_moved_is (x ∷ xs) [] e = absurd (false≢true e)
same_moved_is (x ∷ xs) (y ∷ ys) e =
    let a = and_parts (x.0 == y.0 && x.1 == y.1) (same_moved xs ys) e in
    let b = and_parts (x.0 == y.0) (x.1 == y.1) a.0 in
    ap₂ (λ (z : ℕ × ℕ) (zs : List (ℕ × ℕ)). z ∷ zs) (ap₂ (λ m n. (m, n)) (eqb-true x.0 y.0 b.0) (eqb-true x.1 y.1 b.1)) (same_moved_is xs ys a.1)

pub same_moved_self : (xs : List (ℕ × ℕ)) → same_moved xs xs ≡ true
same_moved_self [] = refl
same_moved_self (x ∷ xs) = ap₂ (λ a b. a && b) (ap₂ (λ a b. a && b) (eq-eqb x.0 x.0 refl) (eq-eqb x.1 x.1 refl)) (same_moved_self xs)
