-- A history in two parts.
use Rattle.std.proofs.Common.{ℕ, ◌<◌, List, [], ◌∷◌, ◌++◌, All, refl}
use Rattle.std.proofs.lemmas.List.Elements.{All-cons, All-head, All-nil, All-tail}
use Rattle.batch_book.specs.declared.entry.Entry.{Entry}
use Rattle.batch_book.specs.History.{IsReplay}
use Rattle.batch_book.specs.Machine.{Machine}

-- the first part leads to a machine from which the second goes on
pub replay_split : (m : Machine) (es fs : List Entry) (n : Machine) → IsReplay m (es ++ fs) n → (k : Machine) × IsReplay m es k × IsReplay k fs n
replay_split m [] fs n led = (m, refl, led)
replay_split m (e ∷ es) fs n led =
    let rest = replay_split led.0 es fs n led.2 in
    (rest.0, (led.0, led.1, rest.1), rest.2)

pub both_parts : (P : Entry → Type 0) (xs ys : List Entry) → All P (xs ++ ys) → All P xs × All P ys
both_parts P [] ys all = (All-nil P, all)
both_parts P (x ∷ xs) ys all =
    let rest = both_parts P xs ys (All-tail P x (xs ++ ys) all) in
    (All-cons P x xs (All-head P x (xs ++ ys) all) rest.0, rest.1)

-- the number of an entry's session is below this
abbrev pub IsBelow : ℕ → Entry → Type 0
IsBelow limit e = e.session < limit
