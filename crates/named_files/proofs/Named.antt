-- What has gone to a stream that has a name.
use Rattle.std.proofs.Common.{◌≡◌, ◌∙◌, ◌++◌, ◌==◌, ℕ, Bool, true, false, List, [], ◌∷◌, Option, Some, None, if◌then◌else◌, append_assoc, ap, ap₂, arith, eqb-true, length, refl, sym}
use Rattle.std.specs.Io.KnownBytes.{Appends}
use Rattle.clap.specs.Words.{Text}
use Rattle.named_files.specs.Streams.{bytes_after, written_by, written_to, named_text}

same_is : (a : ℕ) → (a == a) ≡ true
same_is a = grind arith

behind_front : (front bytes : List ℕ) → bytes_after front (front ++ bytes) ≡ Some bytes
behind_front [] bytes = refl
behind_front (b ∷ front) bytes = rw (same_is b) (behind_front front bytes)

after_is : (front bytes rest : List ℕ) → bytes_after front bytes ≡ Some rest → bytes ≡ front ++ rest
after_is [] bytes rest is = let same : Some bytes ≡ Some rest = is in cc
after_is (b ∷ front) [] rest is = absurd cc
after_is (b ∷ front) (c ∷ bytes) rest is = by (b == c) refl is (after_is front bytes rest)
  where
    by : (same : Bool) → (b == c) ≡ same → (if same then bytes_after front bytes else None) ≡ Some rest
        → (bytes_after front bytes ≡ Some rest → bytes ≡ front ++ rest) → c ∷ bytes ≡ b ∷ (front ++ rest)
    by true same so parts = ap₂ (λ (x : ℕ) (xs : List ℕ). x ∷ xs) (sym (eqb-true b c same)) (parts so)
    by false same so parts = absurd cc

-- what contracts see of it
pub gone_front : (name : Text) (bytes : List ℕ) → written_to name (Some (named_text name bytes)) ≡ Some bytes
gone_front name bytes = behind_front (length name ∷ name) bytes

pub gone_is : (name : Text) (contents : Option (List ℕ)) (bytes : List ℕ) → written_to name contents ≡ Some bytes → contents ≡ Some (named_text name bytes)
gone_is name None bytes is = absurd cc
gone_is name (Some all) bytes is = ap Some (after_is (length name ∷ name) all bytes is)

-- known bytes that grew
pub grown : (old new : Option (List ℕ)) (front bytes : List ℕ) → old ≡ Some front → Appends old new bytes → new ≡ Some (front ++ bytes)
grown None new front bytes is appended = absurd cc
grown (Some xs) None front bytes is appended = absurd appended
grown (Some xs) (Some ys) front bytes is appended =
    let same : xs ≡ front = cc in ap Some (appended ∙ ap (λ (f : List ℕ). f ++ bytes) same)

-- it grows as they do
pub gone_more : (name : Text) (old new : Option (List ℕ)) (bytes more : List ℕ) → written_to name old ≡ Some bytes → Appends old new more → written_to name new
    ≡ Some (bytes ++ more)
gone_more name None new bytes more is put = absurd cc
gone_more name (Some xs) None bytes more is put = absurd put
gone_more name (Some xs) (Some ys) bytes more is put =
    let front = length name ∷ name in
    let same : ys ≡ front ++ (bytes ++ more) = put ∙ ap (λ (x : List ℕ). x ++ more) (after_is front xs bytes is) ∙ append_assoc front bytes more in
    rw same (behind_front front (bytes ++ more))

pub by_more : (name : Option Text) (old new : Option (List ℕ)) (bytes more : List ℕ) → written_by name old ≡ Some bytes → Appends old new more
    → written_by name new ≡ Some (bytes ++ more)
by_more (Some name) old new bytes more is put = gone_more name old new bytes more is put
by_more None old new bytes more is put = grown old new bytes more is put

-- a stream has one name
cut_same : (one other front rest : List ℕ) → length one ≡ length other → one ++ front ≡ other ++ rest → one ≡ other
cut_same [] [] front rest same is = refl
cut_same [] (b ∷ other) front rest same is = absurd (omega (arith, same))
cut_same (a ∷ one) [] front rest same is = absurd (omega (arith, same))
cut_same (a ∷ one) (b ∷ other) front rest same is =
    let head : a ≡ b = (let e : a ∷ (one ++ front) ≡ b ∷ (other ++ rest) = is in cc) in
    let tail : one ++ front ≡ other ++ rest = (let e : a ∷ (one ++ front) ≡ b ∷ (other ++ rest) = is in cc) in
    ap₂ (λ (x : ℕ) (xs : List ℕ). x ∷ xs) head (cut_same one other front rest (omega (arith, same)) tail)

pub one_name : (name other : Text) (bytes rest : List ℕ) → written_to other (Some (named_text name bytes)) ≡ Some rest → name ≡ other
one_name name other bytes rest is =
    let e : (length name ∷ name) ++ bytes ≡ (length other ∷ other) ++ rest = after_is (length other ∷ other) ((length name ∷ name) ++ bytes) rest is in
    let count : length name ≡ length other = (let f : length name ∷ (name ++ bytes) ≡ length other ∷ (other ++ rest) = e in cc) in
    let tail : name ++ bytes ≡ other ++ rest = (let f : length name ∷ (name ++ bytes) ≡ length other ∷ (other ++ rest) = e in cc) in
    cut_same name other bytes rest count tail
