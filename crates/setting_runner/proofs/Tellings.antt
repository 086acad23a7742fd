-- What a notice is told, one number after the other.
use Rattle.std.proofs.Common.{ℕ, zero, suc}
use Rattle.setting_runner.specs.Runs.{ToldUpTo}

-- what holds once 0 was told, and still holds after each number that is told next, holds at the end
pub told_keeps : {N : Type 0} (hears : N → ℕ → N → Type 0) (holds : N → ℕ → Type 0) (a b : N) (k : ℕ) → ((c : N) → hears a 0 c → holds c 0)
    → ((c d : N) (j : ℕ) → holds c j → hears c (suc j) d → holds d (suc j)) → ToldUpTo hears a k b → holds b k
told_keeps hears holds a b zero begins goes t = begins b t
told_keeps hears holds a b (suc k) begins goes t = goes t.0 b k (told_keeps hears holds a t.0 k begins goes t.1) t.2

-- the last number told
pub told_last : {N : Type 0} (hears : N → ℕ → N → Type 0) (a b : N) (k : ℕ) → ToldUpTo hears a k b → (m : N) × hears m k b
told_last hears a b zero t = (a, t)
told_last hears a b (suc k) t = (t.0, t.2)
