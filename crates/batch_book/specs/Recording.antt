-- What becomes of a call: its entry is made, and where that stands where it belongs the reply can
-- be told.
use Rattle.std.specs.Prelude.{◌≡◌, ℕ, ◌||◌, ◌&&◌, if◌then◌else◌, Bool, true, false, List, [], ◌∷◌}
use Rattle.std.specs.Prelude.{◌++◌, Option, Some, None, is_none, Result, Ok, Err}
use Rattle.std.specs.List.{flat_map}
use Rattle.batch_book.specs.declared.call.Call.{Call}
use Rattle.batch_book.specs.declared.entry.Entry.{Entry}
use Rattle.batch_book.specs.declared.reply.Reply.{Reply}
use Rattle.batch_book.specs.declared.unrecorded.Unrecorded.{Unrecorded}
use Rattle.batch_book.specs.History.{BookView, IsGrown, entry}
use Rattle.batch_book.specs.Replies.{is_logged}
use Rattle.batch_book.specs.Values.{value_of}

-- ---- the book

-- A call was made: the history has its entry, where it has such.
pub record IsAnswered (old : BookView) (session : ℕ) (call : Call) (reply : Reply)
    (new : BookView) : Type 0 where
  pub was_whole : old.whole ≡ true
  pub whole : new.whole ≡ true
  pub grown : is_logged reply ≡ true → IsGrown old session call reply new
  pub unlogged : is_logged reply ≡ false → new ≡ old

-- it was made, or an entry was lost before, and it wasn't
abbrev pub Applies : BookView → ℕ → Call → Result Reply Unrecorded → BookView → Type 0
Applies old session call (Ok reply) new = IsAnswered old session call reply new
Applies old session call (Err lost) new = (old.whole ≡ false) × (new ≡ old)

-- the value of the reply
abbrev pub value_made : Result Reply Unrecorded → ℕ
value_made (Ok reply) = value_of reply
value_made (Err lost) = 0

-- ---- what is noted of calls

-- A call that was made, its reply and the place of its entry. Or a mark: all that the session has
-- asked can be told. Or the lists of a side that has a lock of its own: what is known there of all
-- entries, and of those that were handed on, and up to which place they stand where they belong.
pub record Noted : Type 0 where
  pub session : ℕ
  pub made : Option (Call × Reply)
  pub place : ℕ
  pub lists : Option (List Entry × List Entry)

abbrev pub note : ℕ → ℕ → Call → Reply → Noted
note session place call reply =
    record { session = session; made = Some (call, reply); place = place; lists = None }

abbrev pub mark : ℕ → Noted
mark session = record { session = session; made = None; place = 0; lists = None }

abbrev pub side_note : ℕ → ℕ → (all queued : List Entry) → Noted
side_note session place all queued =
    record { session = session; made = None; place = place; lists = Some (all, queued) }

abbrev pub entry_of : ℕ → Option (Call × Reply) → List Entry
entry_of session None = []
entry_of session (Some m) = entry session m.0 m.1 ∷ []

abbrev pub made_by : Noted → List Entry
made_by n = entry_of n.session n.made

-- all entries that were made
abbrev pub made_in : List Noted → List Entry
made_in notes = flat_map made_by notes

abbrev pub marks : Noted → Bool
marks n = is_none n.made && is_none n.lists

abbrev pub has_mark : List Noted → Bool
has_mark [] = false
has_mark (n ∷ ns) = marks n || has_mark ns

-- those that were made before the last mark
abbrev pub marked_in : List Noted → List Entry
marked_in [] = []
marked_in (n ∷ ns) = if has_mark (n ∷ ns) then made_by n ++ marked_in ns else []

-- what is noted of a call whose entry has this place
abbrev pub noted : ℕ → ℕ → Call → Result Reply Unrecorded → List Noted
noted session place call (Ok reply) =
    if is_logged reply then note session place call reply ∷ [] else []
noted session place call (Err lost) = []

abbrev pub entry_if : Bool → Entry → List Entry
entry_if made e = if made then e ∷ [] else []

-- the entry of a call, where the history has such
abbrev pub asked_by : ℕ → Call → Result Reply Unrecorded → List Entry
asked_by session call (Ok reply) = entry_if (is_logged reply) (entry session call reply)
asked_by session call (Err lost) = []
