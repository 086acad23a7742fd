-- The passes by which the files of clients are opened.
use Rattle.std.specs.Prelude.{ℕ, List, [], ◌∷◌, ◌++◌, Option, Some, None, map}
use Rattle.std.specs.List.{range_with_len}
use Rattle.std.specs.declared.snapshot.Snapshot.{Snapshot}
use Rattle.session_answers.specs.HostAnswers.{KnownClients}

-- the names of the clients to whom passes were given, and of those whose passes were used
pub record GivenPasses : Type 0 where
  pub given : List (List ℕ)
  pub admitted : List (List ℕ)

abbrev pub no_passes : GivenPasses
no_passes = record { given = []; admitted = [] }

abbrev pub given_to : List ℕ → GivenPasses → GivenPasses
given_to name passes =
    record { given = passes.given ++ name ∷ []; admitted = passes.admitted }

-- all that were given were used
abbrev pub all_admitted : GivenPasses → GivenPasses
all_admitted passes = record { given = passes.given; admitted = passes.given }

-- the names of all clients, in their order
abbrev pub client_names : KnownClients → List (List ℕ)
client_names g = map g.named (range_with_len 0 g.clients)

-- ---- what is taken down

-- the names before the last one, and then that; none where there is no last one
abbrev pub names_seen : Option (Snapshot (List (List ℕ)) × List ℕ) → List (List ℕ)
names_seen None = []
names_seen (Some last) = last.0.value ++ last.1 ∷ []

-- those that were there then; none where there was no such time
abbrev pub names_then : Option (Snapshot (List (List ℕ))) → List (List ℕ)
names_then None = []
names_then (Some then) = then.value

abbrev pub passes_seen : List (List ℕ) → Option (Snapshot (List (List ℕ))) → GivenPasses
passes_seen given admitted = record { given = given; admitted = names_then admitted }
