-- How many places are in no half: the number that falls from step to step of a walk.
use Rattle.std.proofs.Common.{◌≡◌, ℕ, zero, suc, ◌+◌, ◌<◌, List, [], ◌∷◌, length, set, Option, Some, None, Bool, sym, arith}
use Rattle.std.proofs.lemmas.Option.{none-some}
use Rattle.euler_split.specs.Walks.{half_at}

abbrev pub left_over : List (Option Bool) → ℕ
left_over [] = 0
left_over (None ∷ h) = 1 + left_over h
left_over (Some x ∷ h) = left_over h

pub left_over-set : (h : List (Option Bool)) (v : ℕ) (x : Bool) → v < length h → half_at h v ≡ None → left_over (set h v (Some x)) < left_over h
left_over-set [] v x within out = absurd (omega arith)
left_over-set (None ∷ h) zero x within out = omega arith
left_over-set (Some y ∷ h) zero x within out = absurd (none-some y (sym out))
left_over-set (None ∷ h) (suc v) x within out = omega (arith, left_over-set h v x (omega arith) out)
left_over-set (Some y ∷ h) (suc v) x within out = omega (arith, left_over-set h v x (omega arith) out)
