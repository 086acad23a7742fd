-- What is printed of a host's sessions, and how much room it takes.
use Rattle.std.specs.Prelude.{ℕ, ◌+◌, zero, suc, List, [], ◌∷◌, ◌++◌, length}
use Rattle.session_answers.specs.declared.ended_session.Ending.{Ending}
use Rattle.session_answers.specs.declared.hosting.TheConstants.{SESSION_ROOM}
use Rattle.session_answers.specs.HostAnswers.{KnownClients, ending_line, hosted_heading}

-- what is printed of sessions that ended so, the first of which has this number
abbrev pub ends_text : {C : Type 0} → KnownClients → ℕ → List (Ending C) → List ℕ
ends_text g first [] = []
ends_text g first (e ∷ es) = (hosted_heading g first ++ ending_line e) ++ ends_text g (first + 1) es

-- room for what is printed of the session of a client
abbrev pub session_room : KnownClients → ℕ → ℕ
session_room g client = SESSION_ROOM + length (g.named client)

-- room for what is printed of so many sessions
abbrev pub room_of : KnownClients → ℕ → ℕ
room_of g zero = 0
room_of g (suc n) = room_of g n + session_room g n
