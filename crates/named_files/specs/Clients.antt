-- The clients of a host, by the names of their files.
use Rattle.std.specs.Prelude.{◌≡◌, ℕ, List, [], ◌∷◌, ◌++◌, codes, Option, Some, true, length, map}
use Rattle.std.specs.Prelude.{slice_index_or}
use Rattle.session_answers.specs.HostAnswers.{KnownClients, SessionEnd, seen_end}
use Rattle.session_answers.specs.declared.ended_session.Ending.{Ending}

-- The clients of these names: each says what comes from `NAME.in`, as far as that is known, and is
-- told after what had gone to `NAME.out` before. Any file may be such that it can't be opened.
abbrev pub clients_by : (List ℕ → Option (List ℕ)) → (List ℕ → List ℕ) → List (List ℕ)
    → KnownClients
clients_by comes begins names =
    record {
      clients = length names;
      says = λ k. comes (slice_index_or names k [] ++ codes ".in");
      contains = λ k. Some (begins (slice_index_or names k [] ++ codes ".out"));
      named = λ k. slice_index_or names k [];
      may_fail = λ _. true;
    }

-- where sessions of the clients of these names ended so, just their files were opened, those of
-- each once; where none began, no client's were
abbrev pub AreAdmitted : List (List ℕ) → List SessionEnd → (admitted : List (List ℕ)) → Type 0
AreAdmitted names [] admitted = admitted ≡ []
AreAdmitted names (end ∷ ends) admitted = admitted ≡ names

-- how the sessions of clients ended, with what went to the file of each
abbrev pub ends_of : List (Ending (List ℕ)) → List SessionEnd
ends_of endings = map (seen_end Some) endings
