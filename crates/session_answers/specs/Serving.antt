-- What `serve` answers.
use Rattle.std.specs.Prelude.{◌≡◌, ℕ, ◌≤◌, false, List, [], length, map, All, slice_get, Option}
use Rattle.std.specs.Prelude.{Some, None}
use Rattle.std.specs.List.{range_with_len}
use Rattle.module_memory.specs.Store.{Store}
use Rattle.batch_book.specs.declared.limits.TheConstants.{MAX_ENTRIES}
use Rattle.batch_book.specs.History.{BookView, new_book_view}
use Rattle.plan_answers.specs.Refusals.{Printed, Refuses}
use Rattle.refusals.specs.declared.refusal.Refusal.{Refusal}
use Rattle.session_answers.specs.Frames.{Transcript, sessions_text, has_fault}
use Rattle.session_answers.specs.Histories.{IsClosing}
use Rattle.rack_answers.specs.Openings.{IsRackOf, IsWrongRack}
use Rattle.session_answers.specs.Sessions.{Beginning, beginning, IsServedSession}

-- a session that read a front of the script at its number's place
abbrev pub HasItsScript : Beginning → List (List ℕ) → Transcript → Type 0
HasItsScript b scripts t =
    (script rest : List ℕ) × (slice_get scripts t.part.session ≡ Some script)
    × IsServedSession b (Some script) (Some rest) t

-- each script has its session, in the order of the scripts
pub record AreSessionsOf (b : Beginning) (scripts : List (List ℕ))
    (sessions : List Transcript) : Type 0 where
  pub numbers : map (λ t. t.part.session) sessions ≡ range_with_len 0 (length scripts)
  pub each : All (HasItsScript b scripts) sessions

-- The sessions of the scripts on one exchange, whose rack has this store at first, are printed, and
-- leave this book. It has no more entries than it may keep.
abbrev pub AreServed : Store → List (List ℕ) → Printed → Option BookView → Type 0
AreServed opening scripts printed left =
    (sessions : List Transcript)
    × AreSessionsOf (beginning false (new_book_view opening)) scripts sessions
    × (book : BookView) × (left ≡ Some book) × (length book.history ≤ MAX_ENTRIES)
    × IsClosing false opening [] (map (λ t. t.part) sessions) (sessions_text sessions)
    (has_fault sessions) printed book

-- the sessions of the scripts on the rack of the shape and the image, and the book that is left;
-- or the refusal where there is none, and no book
pub data IsServeAnswer (shape : List ℕ) (image : Option (List ℕ)) (scripts : List (List ℕ))
    (printed : Printed) (left : Option BookView) : Type 0 where
  served : (opening : Store) → IsRackOf shape image opening
      → AreServed opening scripts printed left → IsServeAnswer shape image scripts printed left
  refused : (refusal : Refusal) → IsWrongRack shape image refusal → Refuses refusal printed
      → left ≡ None → IsServeAnswer shape image scripts printed left
