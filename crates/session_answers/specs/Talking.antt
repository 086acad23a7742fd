-- What `talk` leaves.
use Rattle.std.specs.Prelude.{◌≡◌, ◌∷◌, ℕ, Bool, List, [], Option, is_some}
use Rattle.batch_book.specs.History.{BookView}
use Rattle.plan_answers.specs.Refusals.{Printed}
use Rattle.session_answers.specs.Frames.{Transcript, end_line}
use Rattle.session_answers.specs.Histories.{IsClosing}
use Rattle.session_answers.specs.Sessions.{beginning, IsServedSession}

-- the one session of an exchange over a book that was so, which was told this; of its end this is
-- printed, and it leaves this book
abbrev pub HasTalked : Bool → BookView → (before after : Option (List ℕ)) → List ℕ → Printed
    → BookView → Type 0
HasTalked loses was before after told printed left =
    (t : Transcript) × (t.part.session ≡ 0) × (t.told ≡ told)
    × IsServedSession (beginning loses was) before after t
    × IsClosing loses was.opening was.history (t.part ∷ []) (end_line t.fault) (is_some t.fault)
    printed left

-- nothing was read, and nothing told
abbrev pub IsUntouched : (before after : Option (List ℕ)) → List ℕ → Type 0
IsUntouched before after told = (after ≡ before) × (told ≡ [])
