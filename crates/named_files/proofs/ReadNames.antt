-- A job reads the files of its names.
use Rattle.std.proofs.Common.{◌≡◌, ◌∙◌, ◌+◌, ◌<◌, ℕ, [], ◌∷◌, ◌++◌, List, All, ap, append-nil, drop, get_or, inl, inr, length, refl, subst, sym, take}
use Rattle.std.specs.Prelude.{Contains, option_to_list}
use Rattle.std.proofs.lemmas.List.Elements.{Contains-append_left, Contains-append_right, Contains-get_or}
use Rattle.std.proofs.lemmas.List.{append_assoc, take-append-drop, take_more}
use Rattle.clap.specs.Words.{Text}
use Rattle.command_words.specs.declared.jobs.Job.{Job}
use Rattle.command_words.specs.Jobs.{Files, all_files, files_of}
use Rattle.named_files.specs.Contents.{HasReadOnce, StandAmong}
use Rattle.named_files.specs.DistinctFiles.{IsReadOf}

here : (xs ys : List Text) → All (Contains (xs ++ ys)) xs
here xs ys = λ k d lt. Contains-append_left xs ys (get_or xs k d) (Contains-get_or xs k d lt)

later : (xs ys zs : List Text) → All (Contains ys) zs → All (Contains (xs ++ ys)) zs
later xs ys zs all = λ k d lt. Contains-append_right xs ys (get_or zs k d) (all k d lt)

abbrev AreAllRead : List Text → Files Text → Type 0
AreAllRead read names =
    All (Contains read) (option_to_list names.image) × All (Contains read) (option_to_list names.list)
    × All (Contains read) (option_to_list names.schedule) × All (Contains read) (option_to_list names.wiring)
    × All (Contains read) names.scripts

all_read : (names : Files Text) → AreAllRead (all_files names) names
all_read names =
    let a = option_to_list names.image in
    let b = option_to_list names.list in
    let c = option_to_list names.schedule in
    let d = option_to_list names.wiring in
    let e = names.scripts in (
      here a (b ++ (c ++ (d ++ e))),
      later a (b ++ (c ++ (d ++ e))) b (here b (c ++ (d ++ e))),
      later a (b ++ (c ++ (d ++ e))) c (later b (c ++ (d ++ e)) c (here c (d ++ e))),
      later a (b ++ (c ++ (d ++ e))) d (later b (c ++ (d ++ e)) d (later c (d ++ e) d (here d e))),
      later a (b ++ (c ++ (d ++ e))) e (later b (c ++ (d ++ e)) e (later c (d ++ e) e (later d e e (λ k x lt. Contains-get_or e k x lt)))),
    )

pub read_of : (job : Job) (names : Files Text) → names ≡ files_of job → AreAllRead (all_files (files_of job)) names
read_of job names is = subst (λ (files : Files Text). AreAllRead (all_files files) names) is (all_read names)

-- ---- each once

among_later : (ones front back : List Text) → StandAmong ones back → StandAmong ones (front ++ back)
among_later [] front back is = tt
among_later (one ∷ ones) [] back is = is
among_later (one ∷ ones) (name ∷ front) back is = inr (among_later (one ∷ ones) front back is)

among_both : (ones others front back : List Text) → StandAmong ones front → StandAmong others back → StandAmong (ones ++ others) (front ++ back)
among_both [] others front back is are = among_later others front back are
among_both (one ∷ ones) others [] back is are = absurd is
among_both (one ∷ ones) others (name ∷ front) back (inl is) are = inl (is.0, among_both ones others front back is.1 are)
among_both (one ∷ ones) others (name ∷ front) back (inr is) are = inr (among_both (one ∷ ones) others front back is are)

pub read_none : (names old : List Text) → HasReadOnce names old old
read_none names old = ([], sym (append-nil old), tt)

pub read_one : (name : Text) (old new : List Text) → new ≡ old ++ name ∷ [] → HasReadOnce (name ∷ []) old new
read_one name old new is = (name ∷ [], is, inl (refl, tt))

pub read_both : (front back old mid new : List Text) → HasReadOnce front old mid → HasReadOnce back mid new → HasReadOnce (front ++ back) old new
read_both front back old mid new first then = (
  first.0 ++ then.0,
  then.1 ∙ ap (λ (names : List Text). names ++ then.0) first.1 ∙ append_assoc old first.0 then.0,
  among_both first.0 then.0 front back first.2 then.2,
)

pub read_front : (front back old new : List Text) → HasReadOnce front old new → HasReadOnce (front ++ back) old new
read_front front back old new first = read_both front back old new new first (read_none back new)

-- one more of these names
pub read_next : (names : List Text) (i : ℕ) (name : Text) (old mid new : List Text) → i < length names → name ≡ get_or names i name
    → HasReadOnce (take i names) old mid → HasReadOnce (name ∷ []) mid new → HasReadOnce (take (i + 1) names) old new
read_next names i name old mid new below at first then =
    subst (λ (ns : List Text). HasReadOnce ns old new) (sym (take_more names i name below ∙ ap (λ (x : Text). take i names ++ x ∷ []) (sym at)))
    (read_both (take i names) (name ∷ []) old mid new first then)

-- so many of these names are some of them
pub read_some : (names : List Text) (i : ℕ) (old new : List Text) → HasReadOnce (take i names) old new → HasReadOnce names old new
read_some names i old new is = subst (λ (ns : List Text). HasReadOnce ns old new) (take-append-drop i names)
    (read_front (take i names) (drop i names) old new is)

-- those of a job, by what they are for
pub read_each : (names : Files Text) (old first second third fourth new : List Text) → HasReadOnce (option_to_list names.image) old first
    → HasReadOnce (option_to_list names.list) first second → HasReadOnce (option_to_list names.schedule) second third
    → HasReadOnce (option_to_list names.wiring) third fourth → HasReadOnce names.scripts fourth new → HasReadOnce (all_files names) old new
read_each names old first second third fourth new image list schedule wiring scripts =
    let c = option_to_list names.schedule in
    let d = option_to_list names.wiring in
    let e = names.scripts in
    read_both (option_to_list names.image) (option_to_list names.list ++ (c ++ (d ++ e))) old first new image
    (read_both (option_to_list names.list) (c ++ (d ++ e)) first second new list
    (read_both c (d ++ e) second third new schedule (read_both d e third fourth new wiring scripts)))
