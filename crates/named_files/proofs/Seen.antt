-- Files that are seen to be apart.
use Rattle.std.proofs.Common.{◌≡◌, ◌<◌, ◌++◌, ℕ, zero, suc, List, [], ◌∷◌, Option, Some, None, IfSome, arith, codes, length, map, subst}
use Rattle.std.specs.Prelude.{Contains, flat_map, option_to_list, slice_index_or}
use Rattle.std.proofs.lemmas.List.Elements.{Contains-append_left, Contains-append_right, Contains-push}
use Rattle.clap.specs.Words.{Text}
use Rattle.command_words.specs.Jobs.{client_files, clients_of, file, files_read, kept_files, live_names, recorded_in}
use Rattle.command_words.specs.declared.jobs.Job.{Job}
use Rattle.command_words.specs.declared.jobs.Job.TheVariants.{Ports, Sessions, Texts}
use Rattle.command_words.specs.declared.jobs.SessionJob.{SessionJob}
use Rattle.command_words.specs.declared.jobs.SharedRack.{SharedRack}
use Rattle.command_words.specs.declared.uses.Access.TheVariants.{Read, Told, Write}
use Rattle.command_words.specs.declared.uses.FileUse.{FileUse}
use Rattle.named_files.specs.DistinctFiles.{AreSeenApart, HaveNoClash, IsNoneOf, TellsBy, Leading, MayBeWritten}

pub seen_apart : (leads : Leading) (lent more files : List FileUse) → lent ≡ files → more ≡ files → IsNoneOf leads (codes "/dev/stdout") lent
    → IsNoneOf leads (codes "/dev/stderr") lent → HaveNoClash leads more → AreSeenApart leads files
seen_apart leads lent more files same again out err pairs =
    record {
      pairs = subst (HaveNoClash leads) again pairs;
      out = subst (IsNoneOf leads (codes "/dev/stdout")) same out;
      err =
          subst (IsNoneOf leads (codes "/dev/stderr")) same err;
    }

-- a file of this name, where there is one, is among these, to be written
abbrev StandsWritten : List FileUse → Option Text → Type 0
StandsWritten uses name = IfSome name (λ name. Contains uses (file Write name))

-- two names that are written
both : (one other : Option Text) → StandsWritten (map (file Write) (option_to_list one ++ option_to_list other)) one
    × StandsWritten (map (file Write) (option_to_list one ++ option_to_list other)) other
both None None = (tt, tt)
both None (Some y) = (tt, Contains-push [] (file Write y))
both (Some x) None = (Contains-push [] (file Write x), tt)
both (Some x) (Some y) = (
  Contains-append_left (file Write x ∷ []) (file Write y ∷ []) (file Write x) (Contains-push [] (file Write x)),
  Contains-push (file Write x ∷ []) (file Write y),
)

-- the files for a record and an image stand among a job's
kept_in : (rack : SharedRack) (job : SessionJob) (name : Option Text) → StandsWritten (kept_files rack) name → MayBeWritten (Sessions rack job) name
kept_in rack job None is = tt
kept_in rack job (Some name) is =
    Contains-append_right (map (file Read) (files_read (Sessions rack job))) (kept_files rack ++ flat_map client_files (live_names job)) (file Write name)
    (Contains-append_left (kept_files rack) (flat_map client_files (live_names job)) (file Write name) is)

pub kept_written : (rack : SharedRack) (job : SessionJob) → MayBeWritten (Sessions rack job) (recorded_in rack)
    × MayBeWritten (Sessions rack job) rack.image_out
kept_written rack job =
    let two = both (recorded_in rack) rack.image_out in
    (kept_in rack job (recorded_in rack) two.0, kept_in rack job rack.image_out two.1)

-- so do those by which clients are told
told_in : (clients : List Text) (k : ℕ) → k < length clients → Contains (flat_map client_files clients)
    (file Told (slice_index_or clients k [] ++ codes ".out"))
told_in [] k below = absurd (omega (arith, below))
told_in (client ∷ clients) zero below =
    Contains-append_left (client_files client) (flat_map client_files clients) (file Told (client ++ codes ".out"))
    (Contains-push (file Read (client ++ codes ".in") ∷ []) (file Told (client ++ codes ".out")))
told_in (client ∷ clients) (suc k) below =
    Contains-append_right (client_files client) (flat_map client_files clients) (file Told (slice_index_or clients k [] ++ codes ".out"))
    (told_in clients k (omega (arith, below)))

among_told : (job : Job) (k : ℕ) → k < length (clients_of job) → TellsBy job (slice_index_or (clients_of job) k [] ++ codes ".out")
among_told (Texts job) k below = absurd (omega (arith, below))
among_told (Ports job) k below = absurd (omega (arith, below))
among_told (Sessions rack job) k below =
    Contains-append_right (map (file Read) (files_read (Sessions rack job))) (kept_files rack ++ flat_map client_files (live_names job)) _
    (Contains-append_right (kept_files rack) (flat_map client_files (live_names job)) _ (told_in (live_names job) k below))

pub told_by : (job : Job) (clients : List Text) (k : ℕ) (out : Text) → clients ≡ clients_of job → k < length clients → out ≡ slice_index_or clients k []
    ++ codes ".out" → TellsBy job out
told_by job clients k out same below is = rw (is, same) (among_told job k (subst (λ (all : List Text). k < length all) same below))
