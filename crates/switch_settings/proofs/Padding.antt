-- A list that is filled up with one value.
use Rattle.std.proofs.Common.{◌≡◌, ◌<◌, ◌+◌, ◌-◌, ℕ, zero, suc, List, [], ◌∷◌, ◌++◌, take, sym, ap, ◌∙◌, arith, set, replicate, add-one}

tail_of : {X : Type 0} → List X → List X
tail_of [] = []
tail_of (x ∷ xs) = xs

padded : {X : Type 0} (es : List X) (n m : ℕ) (v z : X) → es ≡ take n es ++ replicate (suc m) z → set es n v ≡ take (suc n) (set es n v) ++ replicate m z
unfolding tail_of
padded [] zero m v z e = absurd cc
padded [] (suc n) m v z e = absurd cc
padded (x ∷ xs) zero m v z e = ap (λ t. v ∷ t) (ap tail_of e)
padded (x ∷ xs) (suc n) m v z e = ap (λ t. x ∷ t) (padded xs n m v z (ap tail_of e))

pub pad_less : {X : Type 0} (es : List X) (n m : ℕ) (v z : X) → n < m → es ≡ take n es ++ replicate (m - n) z → set es n v ≡ take (n + 1) (set es n v)
    ++ replicate (m - (n + 1)) z
pad_less es n m v z h e =
    let k : m - n ≡ suc (m - (n + 1)) = omega arith in
    padded es n (m - (n + 1)) v z (e ∙ ap (λ i. take n es ++ replicate i z) k) ∙ ap (λ i. take i (set es n v) ++ replicate (m - (n + 1)) z) (sym (add-one n))
