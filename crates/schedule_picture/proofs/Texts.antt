-- What calls that put something at the end of a text put there together.
use Rattle.std.proofs.Common.{◌≡◌, ℕ, ◌+◌, ◌<◌, List, length, get_or, take, ◌++◌, sym, ap, ◌∙◌, append_assoc, Result, Ok, Err}
use Rattle.std.specs.Prelude.{OnOk, is_ok, if◌then◌else◌}
use Rattle.std.proofs.lemmas.Result.{on_ok_weaker}
use Rattle.std.specs.List.{flat_map}
use Rattle.std.proofs.lemmas.List.{flat_map_more, take_more}

-- two parts, one after the other
next : (a b c x y : List ℕ) → b ≡ a ++ x → c ≡ b ++ y → c ≡ a ++ (x ++ y)
next a b c x y p q = q ∙ ap (λ (t : List ℕ). t ++ y) p ∙ append_assoc a x y

-- one part is what is wanted
pub one : {T E : Type 0} (r : Result T E) (a b x z : List ℕ) → OnOk r (b ≡ a ++ x) → x ≡ z → OnOk r (b ≡ a ++ z)
one r a b x z p e = on_ok_weaker r (λ (h : b ≡ a ++ x). h ∙ ap (λ (t : List ℕ). a ++ t) e) p

-- two parts are together what is wanted; and four
pub both : (a b c x y z : List ℕ) → b ≡ a ++ x → c ≡ b ++ y → x ++ y ≡ z → c ≡ a ++ z
both a b c x y z p q e = next a b c x y p q ∙ ap (λ (t : List ℕ). a ++ t) e

pub all_four : (a b c d e x y v w z : List ℕ) → b ≡ a ++ x → c ≡ b ++ y → d ≡ c ++ v → e ≡ d ++ w → ((x ++ y) ++ v) ++ w ≡ z → e ≡ a ++ z
all_four a b c d e x y v w z p q r s = both a d e ((x ++ y) ++ v) w z (next a c d (x ++ y) v (next a b c x y p q) r) s

pub all_five : (a b c d e f x y v w u z : List ℕ) → b ≡ a ++ x → c ≡ b ++ y → d ≡ c ++ v → e ≡ d ++ w → f ≡ e ++ u → (((x ++ y) ++ v) ++ w) ++ u ≡ z → f ≡ a
    ++ z
all_five a b c d e f x y v w u z p q r s t = all_four a c d e f (x ++ y) v w u z (next a b c x y p q) r s t

-- two parts, of which the last may want memory, are together what is wanted; and three, four and
-- five
pub two : {T E : Type 0} (r : Result T E) (a b c x y z : List ℕ) → b ≡ a ++ x → OnOk r (c ≡ b ++ y) → x ++ y ≡ z → OnOk r (c ≡ a ++ z)
two r a b c x y z p q e = on_ok_weaker r (λ (h : c ≡ b ++ y). next a b c x y p h ∙ ap (λ (t : List ℕ). a ++ t) e) q

pub three : {T E : Type 0} (r : Result T E) (a b c d x y v z : List ℕ) → b ≡ a ++ x → c ≡ b ++ y → OnOk r (d ≡ c ++ v) → (x ++ y) ++ v ≡ z → OnOk r (d ≡ a ++ z)
three r a b c d x y v z p q = two r a c d (x ++ y) v z (next a b c x y p q)

pub four : {T E : Type 0} (r : Result T E) (a b c d e x y v w z : List ℕ) → b ≡ a ++ x → c ≡ b ++ y → d ≡ c ++ v → OnOk r (e ≡ d ++ w) → ((x ++ y) ++ v) ++ w
    ≡ z → OnOk r (e ≡ a ++ z)
four r a b c d e x y v w z p q = three r a c d e (x ++ y) v w z (next a b c x y p q)

pub five : {T E : Type 0} (r : Result T E) (a b c d e f x y v w u z : List ℕ) → b ≡ a ++ x → c ≡ b ++ y → d ≡ c ++ v → e ≡ d ++ w → OnOk r (f ≡ e ++ u)
    → (((x ++ y) ++ v) ++ w) ++ u ≡ z → OnOk r (f ≡ a ++ z)
five r a b c d e f x y v w u z p q = four r a c d e f (x ++ y) v w u z (next a b c x y p q)

-- what is put after a text where there is memory
pub put : {T E : Type 0} (r : Result T E) (s x y : List ℕ) → s ≡ (if is_ok r then x else y) → OnOk r (s ≡ x)
put (Ok v) s x y e = e
put (Err v) s x y e = tt

-- one more part, for one more of a list
pub more_items : (f : ℕ → List ℕ) (before xs : List ℕ) (i : ℕ) → i < length xs → (before ++ flat_map f (take i xs)) ++ f (get_or xs i 0) ≡ before
    ++ flat_map f (take (i + 1) xs)
more_items f before xs i lt = flat_map_more f before (take i xs) (get_or xs i 0) ∙ ap (λ (ys : List ℕ). before ++ flat_map f ys) (sym (take_more xs i 0 lt))
