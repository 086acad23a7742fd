-- What the files of a job hold, of which one at most is standard input.
use Rattle.std.proofs.Common.{◌≡◌, ◌≢◌, ◌∙◌, ◌<◌, ◌++◌, ℕ, suc, List, [], ◌∷◌, length, get_or, map, Option, inr, refl, sym, subst, append_assoc, arith, AllPairs}
use Rattle.std.specs.Prelude.{IfSome, option_to_list, ⊤}
use Rattle.std.specs.List.{AllByRecursion}
use Rattle.clap.specs.Words.{Text}
use Rattle.command_words.specs.Jobs.{AskFor, Files, HaveTwoNames, all_files, file, files_beside, files_of, files_read, input_name}
use Rattle.command_words.specs.declared.jobs.Request.{Request}
use Rattle.command_words.specs.declared.uses.Access.TheVariants.{Read}
use Rattle.command_words.specs.declared.uses.FileUse.{FileUse}
use Rattle.exchange.specs.Promises.{AreAllHeld, HoldTexts, HoldsText}
use Rattle.named_files.specs.Contents.{AreContents, AreRead, Holding, IsFileRead}

-- ---- one of the names at most is that of standard input

abbrev pub Alone : List Text → Type 0
Alone [] = ⊤
Alone (n ∷ ns) = AllByRecursion (λ m. n ≡ input_name → n ≢ m) ns × Alone ns

first_alone : (n : Text) (ns : List Text) (rest : List FileUse)
    → ((k : ℕ) (d : FileUse) → k < length (map (file Read) ns ++ rest) → HaveTwoNames (file Read n) (get_or (map (file Read) ns ++ rest) k d))
    → AllByRecursion (λ m. n ≡ input_name → n ≢ m) ns
first_alone n [] rest h = tt
first_alone n (m ∷ ns) rest h = ((λ is. h 0 (file Read n) (omega arith) (inr is)), first_alone n ns rest (λ k d lt. h (suc k) d (omega arith)))

pub alone : (names : List Text) (rest : List FileUse) → AllPairs HaveTwoNames (map (file Read) names ++ rest) → Alone names
alone [] rest h = tt
alone (n ∷ ns) rest h = (
  first_alone n ns rest (λ k d lt. h 0 (suc k) d (omega arith) (omega arith)),
  alone ns rest (λ i j d lt within. h (suc i) (suc j) d (omega arith) (omega arith)),
)

member : (Q : Text → Type 0) (ns : List Text) (name : Text) (rest : List Text) → AllByRecursion Q (ns ++ name ∷ rest) → Q name
member Q [] name rest all = all.0
member Q (n ∷ ns) name rest all = member Q ns name rest all.1

-- where one is, none before it is
pub earlier : (front : List Text) (name : Text) (rest : List Text) → Alone (front ++ name ∷ rest) → name ≡ input_name → AllByRecursion (λ n. n ≢ input_name)
    front
earlier [] name rest a is = tt
earlier (n ∷ ns) name rest a is = ((λ own. member (λ m. n ≡ input_name → n ≢ m) ns name rest a.0 own (own ∙ sym is)), earlier ns name rest a.1 is)

-- ---- reading

-- other files leave standard input
pub pass : (holds : Holding) (before : Option (List ℕ)) (names : List Text) (files : List (List ℕ)) (after : Option (List ℕ))
    → AllByRecursion (λ n. n ≢ input_name) names → AreRead holds before names files after → after ≡ before
pass holds before [] [] after none read = read
pass holds before [] (f ∷ fs) after none read = absurd read
pass holds before (n ∷ ns) [] after none read = absurd read
pass holds before (n ∷ ns) (f ∷ fs) after none read = pass holds read.0 ns fs after none.1 read.2 ∙ (read.1.1 none.0).1

reads_append : (holds : Holding) (a b c : Option (List ℕ)) (xs ys : List Text) (us vs : List (List ℕ)) → AreRead holds a xs us b → AreRead holds b ys vs c
    → AreRead holds a (xs ++ ys) (us ++ vs) c
reads_append holds a b c [] ys [] vs r s = subst (λ (x : Option (List ℕ)). AreRead holds x ys vs c) r s
reads_append holds a b c [] ys (u ∷ us) vs r s = absurd r
reads_append holds a b c (x ∷ xs) ys [] vs r s = absurd r
reads_append holds a b c (x ∷ xs) ys (u ∷ us) vs r s = (r.0, r.1, reads_append holds r.0 b c xs ys us vs r.2 s)

-- what was read after others is what its file holds
held_at : (holds : Holding) (input : Option (List ℕ)) (front : List Text) (fs : List (List ℕ)) (mid : Option (List ℕ)) (name : Text) (text : List ℕ)
    (after : Option (List ℕ)) (rest : List Text) → Alone (front ++ name ∷ rest) → AreRead holds input front fs mid → IsFileRead holds mid name text after
    → HoldsText holds input name text
held_at holds input front fs mid name text after rest a before read = (
  λ is. subst (λ (b : Option (List ℕ)). IfSome b (λ known. text ≡ known)) (pass holds input front fs mid (earlier front name rest a is) before) (read.0 is),
  λ other. (read.1 other).0,
)

held_all : (holds : Holding) (input : Option (List ℕ)) (front : List Text) (fs : List (List ℕ)) (mid : Option (List ℕ)) (names : List Text)
    (texts : List (List ℕ)) (after : Option (List ℕ)) (rest : List Text) → Alone (front ++ (names ++ rest)) → AreRead holds input front fs mid
    → AreRead holds mid names texts after → AreAllHeld (HoldsText holds input) names texts
held_all holds input front fs mid [] [] after rest a before read = tt
held_all holds input front fs mid [] (text ∷ texts) after rest a before read = absurd read
held_all holds input front fs mid (name ∷ names) [] after rest a before read = absurd read
held_all holds input front fs mid (name ∷ names) (text ∷ texts) after rest a before read = (
  held_at holds input front fs mid name text read.0 (names ++ rest) a before read.1,
  held_all holds input (front ++ name ∷ []) (fs ++ text ∷ []) read.0 names texts after rest (rw (append_assoc front (name ∷ []) (names ++ rest)) a)
      (reads_append holds input mid read.0 front (name ∷ []) fs (text ∷ []) before (read.0, read.1, refl)) read.2,
)

held_contents : (holds : Holding) (input : Option (List ℕ)) (names : Files Text) (files : Files (List ℕ)) (rest : Option (List ℕ)) (more : List Text)
    → Alone (all_files names ++ more) → AreContents holds input names files rest → HoldTexts (HoldsText holds input) names files
held_contents holds input names files rest more a reads =
    let i = option_to_list names.image in
    let l = option_to_list names.list in
    let o = option_to_list names.schedule in
    let w = option_to_list names.wiring in
    let s = names.scripts in
    let flat : Alone (i ++ (l ++ (o ++ (w ++ (s ++ more))))) =
    (rw (append_assoc i (l ++ (o ++ (w ++ s))) more, append_assoc l (o ++ (w ++ s)) more, append_assoc o (w ++ s) more, append_assoc w s more) at a) in
    let image = reads.4 in
    let list = reads_append holds input reads.0 reads.1 i l (option_to_list files.image) (option_to_list files.list) image reads.5 in
    let schedule = reads_append holds input reads.1 reads.2 (i ++ l) o (option_to_list files.image ++ option_to_list files.list) (option_to_list files.schedule)
    list reads.6 in
    let wiring = reads_append holds input reads.2 reads.3 ((i ++ l) ++ o) w ((option_to_list files.image ++ option_to_list files.list)
    ++ option_to_list files.schedule) (option_to_list files.wiring) schedule reads.7 in
    record {
      image = held_all holds input [] [] input (option_to_list names.image) (option_to_list files.image) reads.0 (l ++ (o ++ (w ++ (s ++ more)))) flat refl
          image;
      list = held_all holds input i (option_to_list files.image) reads.0 (option_to_list names.list) (option_to_list files.list) reads.1
          (o ++ (w ++ (s ++ more))) flat image reads.5;
      schedule = held_all holds input (i ++ l) (option_to_list files.image ++ option_to_list files.list) reads.1 (option_to_list names.schedule)
          (option_to_list files.schedule) reads.2 (w ++ (s ++ more)) (rw (append_assoc i l (o ++ (w ++ (s ++ more)))) flat) list reads.6;
      wiring = held_all holds input ((i ++ l) ++ o) ((option_to_list files.image ++ option_to_list files.list) ++ option_to_list files.schedule) reads.2
          (option_to_list names.wiring) (option_to_list files.wiring) reads.3 (s ++ more)
          (rw (append_assoc (i ++ l) o (w ++ (s ++ more)), append_assoc i l (o ++ (w ++ (s ++ more)))) flat) schedule reads.7;
      scripts = held_all holds input (((i ++ l) ++ o) ++ w) (((option_to_list files.image ++ option_to_list files.list) ++ option_to_list files.schedule)
          ++ option_to_list files.wiring) reads.3 s files.scripts rest more
          (rw (append_assoc ((i ++ l) ++ o) w (s ++ more), append_assoc (i ++ l) o (w ++ (s ++ more)), append_assoc i l (o ++ (w ++ (s ++ more)))) flat) wiring
          reads.8;
    }

-- where the arguments ask for the job
pub held_files : (words : List Text) (request : Request) (holds : Holding) (input : Option (List ℕ)) (files : Files (List ℕ)) (rest : Option (List ℕ))
    → AskFor words request → AreContents holds input (files_of request.job) files rest → HoldTexts (HoldsText holds input) (files_of request.job) files
held_files words request holds input files rest asks reads =
    held_contents holds input (files_of request.job) files rest _ (alone (files_read request.job) (files_beside request.job) asks.job.files.apart) reads
