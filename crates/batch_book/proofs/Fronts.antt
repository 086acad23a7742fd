-- Lists of which one starts the other.
use Rattle.std.proofs.Common.{◌≡◌, List, ◌++◌, length, take, drop, sym, ap, ◌∙◌, append_assoc}
use Rattle.std.proofs.Math.Seq.{take-append_seam, take-length}
use Rattle.std.proofs.lemmas.List.{take-append-drop}
use Rattle.batch_book.specs.History.{IsPrefix}

-- what stands after a front
abbrev pub IsFront : {A : Type 0} → List A → List A → Type 0
IsFront {A} xs ys = (more : List A) × (ys ≡ xs ++ more)

pub front : {A : Type 0} (xs ys : List A) → IsPrefix xs ys → IsFront xs ys
front xs ys is = (drop (length xs) ys, sym (take-append-drop (length xs) ys) ∙ ap (λ l. l ++ drop (length xs) ys) (sym is))

pub starts : {A : Type 0} (xs ys more : List A) → ys ≡ xs ++ more → IsPrefix xs ys
starts xs ys more is = sym (ap (take (length xs)) is ∙ take-append_seam xs more)

pub starts_same : {A : Type 0} (xs ys : List A) → xs ≡ ys → IsPrefix xs ys
starts_same xs ys is = sym (take-length xs) ∙ ap (take (length xs)) is

pub starts_then : {A : Type 0} (xs ys zs : List A) → IsPrefix xs ys → IsPrefix ys zs → IsPrefix xs zs
starts_then xs ys zs p q =
    let f = front xs ys p in
    let g = front ys zs q in
    starts xs zs (f.0 ++ g.0) (g.1 ∙ ap (λ l. l ++ g.0) f.1 ∙ append_assoc xs f.0 g.0)
