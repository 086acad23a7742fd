-- What sessions answer.
use Rattle.std.specs.Prelude.{◌≡◌, ◌⊎◌, ℕ, Bool, List, [], Option, Some, None, is_some}
use Rattle.batch_book.specs.History.{BookView}
use Rattle.module_memory.specs.Store.{Store}
use Rattle.clap.specs.Words.{Text}
use Rattle.session_answers.specs.HostAnswers.{KnownClients, SessionEnd, AreHosted}
use Rattle.plan_answers.specs.Refusals.{Printed, Refuses}
use Rattle.session_answers.specs.Talking.{HasTalked, IsUntouched}
use Rattle.rack_answers.specs.Openings.{IsRackOf, IsWrongRack}
use Rattle.record_replay.specs.declared.fault.RecordFault.{RecordFault}
use Rattle.record_replay.specs.ReplayAnswers.{of_record}
use Rattle.command_words.specs.declared.jobs.SharedRack.{SharedRack}
use Rattle.refusals.specs.declared.refusal.Refusal.{Refusal}
use Rattle.refusals.specs.declared.refusal.Refusal.TheVariants as refusal
use Rattle.named_files.specs.Contents.{Holding}
use Rattle.recorded_sessions.specs.Records.{BeginsWith, IsWrongFor}

-- how sessions go on from one book to another, what is so where none begins, and why none may where
-- rack and record are right
pub record Sessions : Type 1 where
  pub served : BookView → BookView → Type 0
  pub unserved : Type 0
  pub may_refuse : Refusal → Type 0

-- why no session begins: the rack is wrong, or else its record
abbrev pub IsWrongStart : Holding → SharedRack → List Text → Option (List ℕ) → Refusal → Type 0
IsWrongStart holds rack names image refusal =
    IsWrongRack rack.shape image refusal
    ⊎ ((opening : Store) × IsRackOf rack.shape image opening
    × (fault : RecordFault) × IsWrongFor holds rack.record_out opening names fault
    × (refusal ≡ of_record fault))

-- Sessions on the rack of the shape and the image, by clients of these names, began with the book
-- of their record, and leave this book; or there is a refusal, and none is left.
abbrev pub IsLiveAnswer : Holding → SharedRack → List Text → Option (List ℕ) → Sessions → Printed
    → Option BookView → Type 0
IsLiveAnswer holds rack names image sessions end None =
    sessions.unserved × ((refusal : Refusal) × Refuses refusal end
    × (IsWrongStart holds rack names image refusal
    ⊎ ((opening : Store) × IsRackOf rack.shape image opening × sessions.may_refuse refusal)))
IsLiveAnswer holds rack names image sessions end (Some book) =
    (opening : Store) × IsRackOf rack.shape image opening
    × (was : BookView) × BeginsWith holds rack.record_out opening names was
    × sessions.served was book

-- an entry of such a record may be lost
abbrev pub loses : SharedRack → Bool
loses rack = is_some rack.record_out

-- the sessions of a host's clients, which ended so
abbrev pub hosting : SharedRack → KnownClients → List SessionEnd → Printed → Sessions
hosting rack clients ends end =
    record {
      served = λ was book. AreHosted (loses rack) was clients ends end book;
      unserved = ends ≡ [];
      may_refuse = λ why. why ≡ refusal.Threads;
    }

-- the session of one client, which was told this
abbrev pub talking : SharedRack → Option (List ℕ) → Option (List ℕ) → List ℕ → Printed → Sessions
talking rack before after told end =
    record {
      served = λ was book. HasTalked (loses rack) was before after told end book;
      unserved = IsUntouched before after told;
      may_refuse = λ why. ⊥;
    }
