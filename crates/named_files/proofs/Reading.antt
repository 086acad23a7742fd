-- Files that are read one after another.
use Rattle.std.proofs.Common.{◌≡◌, ◌∙◌, ◌<◌, ◌+◌, ℕ, List, [], ◌∷◌, ◌++◌, Option, Result, true, is_ok, if◌then◌else◌, length, map, take, get_or, ap, sym, subst, refl, arith}
use Rattle.std.proofs.lemmas.List.{map-append, take_more}
use Rattle.named_files.specs.Contents.{AreRead, IsFileRead}

-- one more after others
pub read_more : (holds : List ℕ → List ℕ → Type 0) (before mid after : Option (List ℕ)) (names files : List (List ℕ)) (name file : List ℕ)
    → AreRead holds before names files mid → IsFileRead holds mid name file after → AreRead holds before (names ++ name ∷ []) (files ++ file ∷ []) after
read_more holds before mid after [] [] name file are is = (after, rw are at is, refl)
read_more holds before mid after [] (first ∷ files) name file are is = absurd are
read_more holds before mid after (first ∷ names) [] name file are is = absurd are
read_more holds before mid after (first ∷ names) (one ∷ files) name file are is =
    (are.0, are.1, read_more holds are.0 mid after names files name file are.2 is)

-- there are as many as names
pub as_many : (holds : List ℕ → List ℕ → Type 0) (before after : Option (List ℕ)) (names files : List (List ℕ)) → AreRead holds before names files after
    → length files ≡ length names
as_many holds before after [] [] are = refl
as_many holds before after [] (first ∷ files) are = absurd are
as_many holds before after (first ∷ names) [] are = absurd are
as_many holds before after (first ∷ names) (one ∷ files) are = omega (arith, as_many holds are.0 after names files are.2)

-- the same where they are some of more names
pub read_one_more : (holds : List ℕ → List ℕ → Type 0) (before mid after : Option (List ℕ)) (names files items : List (List ℕ)) (i : ℕ) (name file : List ℕ)
    → i < length names → name ≡ get_or names i name → items ≡ files ++ file ∷ [] → AreRead holds before (take i names) files mid
    → IsFileRead holds mid name file after → AreRead holds before (take (i + 1) names) items after
read_one_more holds before mid after names files items i name file below at grown are is =
    let taken = take_more names i name below ∙ ap (λ (x : List ℕ). take i names ++ x ∷ []) (sym at) in
    subst (λ (ns : List (List ℕ)). AreRead holds before ns items after) (sym taken)
    (subst (λ (fs : List (List ℕ)). AreRead holds before (take i names ++ name ∷ []) fs after) (sym grown)
    (read_more holds before mid after (take i names) files name file are is))

-- what a push that went well leaves
pub pushed_items : {X A B E F : Type 0} (r : Result A E) (s : Result B F) (old new : List X) (x : X) → new ≡ (if is_ok r then old ++ x ∷ [] else old) → is_ok s
    ≡ is_ok r → is_ok s ≡ true → new ≡ old ++ x ∷ []
pushed_items r s old new x is same ok = is ∙ rw (sym same ∙ ok) refl

pub mapped_more : {X : Type 0} (f : X → List ℕ) (old new : List X) (x : X) → new ≡ old ++ x ∷ [] → map f new ≡ map f old ++ f x ∷ []
mapped_more f old new x is = ap (map f) is ∙ map-append f old (x ∷ [])
