-- How the sessions of `serve` are printed. The texts are this project's choice.
use Rattle.std.specs.Prelude.{ℕ, ◌-◌, ◌==◌, if◌then◌else◌, Bool, List, [], ◌∷◌, ◌++◌, codes}
use Rattle.std.specs.Prelude.{flat_map, length, slice_get, Option, Some, None, is_some}
use Rattle.std.specs.Fmt.{decimal}
use Rattle.std.specs.List.{list_any}
use Rattle.client_session.specs.declared.fault.ServeFault.{ServeFault}
use Rattle.client_session.specs.declared.fault.ServeFault.TheVariants.{Read, Write, LineTooLong}
use Rattle.client_session.specs.declared.fault.ServeFault.TheVariants.{Cut, Turns, NoMemory, Record}
use Rattle.session_answers.specs.Histories.{Part}

-- a session that has ended: its part of the history, what it was told, and the fault that ended it,
-- where one did
pub record Transcript : Type 0 where
  pub part : Part
  pub told : List ℕ
  pub fault : Option ServeFault

-- the line of a fault that ended a session
abbrev pub ended_line : ServeFault → List ℕ
ended_line Read = codes "ended read\n"
ended_line Write = codes "ended write\n"
ended_line LineTooLong = codes "ended line too long\n"
ended_line Cut = codes "ended cut\n"
ended_line Turns = codes "ended turns\n"
ended_line NoMemory = codes "ended no memory\n"
ended_line Record = codes "ended record\n"

-- the line that tells which fault ended a session, where one did
abbrev pub end_line : Option ServeFault → List ℕ
end_line None = []
end_line (Some fault) = ended_line fault

-- the line feed that is missing after a last byte
abbrev pub missing_feed : Option ℕ → List ℕ
missing_feed None = []
missing_feed (Some last) = if last == 10 then [] else 10 ∷ []

-- the last of these bytes
abbrev pub last_of : List ℕ → Option ℕ
last_of bytes = slice_get bytes (length bytes - 1)

-- after what a session was told: where a fault ended it, a line that says so, which begins after
-- a line feed
abbrev pub end_text : List ℕ → Option ServeFault → List ℕ
end_text told None = []
end_text told (Some fault) = missing_feed (last_of told) ++ ended_line fault

-- `session I`
abbrev pub heading : ℕ → List ℕ
heading session = codes "session " ++ decimal session ++ codes "\n"

-- what is printed of a session
abbrev pub session_text : Transcript → List ℕ
session_text t = heading t.part.session ++ (t.told ++ end_text t.told t.fault)

-- what is printed of sessions, one after another
abbrev pub sessions_text : List Transcript → List ℕ
sessions_text sessions = flat_map session_text sessions

-- a fault ended one of them
abbrev pub has_fault : List Transcript → Bool
has_fault sessions = list_any (λ t. is_some t.fault) sessions
