-- Whose files were opened.
use Rattle.std.proofs.Common.{◌≡◌, ℕ, List, [], Option, length, refl, sym}
use Rattle.std.specs.Prelude.{slice_index_or}
use Rattle.std.proofs.lemmas.List.FromFn.{fill_by_all}
use Rattle.session_answers.specs.Passes.{GivenPasses, client_names, no_passes}
use Rattle.session_answers.specs.declared.ended_session.Ending.{Ending}
use Rattle.named_files.specs.Clients.{AreAdmitted, clients_by, ends_of}

-- the names of all clients are those by which they are known
pub names_all : (comes : List ℕ → Option (List ℕ)) (begins : List ℕ → List ℕ) (names : List (List ℕ)) → client_names (clients_by comes begins names) ≡ names
names_all comes begins names = sym (fill_by_all (λ k. slice_index_or names k []) names (length names) [] refl (λ k lt. refl))

-- none was admitted as yet
pub none_admitted : (names : List (List ℕ)) (endings : List (Ending (List ℕ))) (passes : GivenPasses) → endings ≡ [] → passes ≡ no_passes
    → AreAdmitted names (ends_of endings) passes.admitted
none_admitted names endings passes none new = rw (none, new) refl
