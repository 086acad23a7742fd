-- A program with one command alone finds what the whole program does, where the arguments name it.
use Rattle.std.proofs.Common.{◌≡◌, ◌∙◌, ◌&&◌, ◌<◌, List, [], ◌∷◌, Bool, true, false, not, Option, Some, Result, Ok, Err, IfOk, IfSome, OnSome, String, if◌then◌else◌, codes, drop, find, fold, get_or}
use Rattle.std.proofs.Common.{is_some, length, option_map, string_bytes, bytes_eq, refl, ap, ap₂, sym, arith}
use Rattle.std.specs.Option.{option_map_or}
use Rattle.std.specs.Result.{result_ok}
use Rattle.clap.specs.Words.{App, FailsBy, HasMatchesOf, Shape, Text, Kinds, built, fault_of, is_simple_and_free, subcommand_of, subcommand_rows_of}
use Rattle.clap.specs.Walk.{Names, Rule, Walk, after_step, answers_to, finished, idle, nothing_held, settled, stop_after, subcommand_met, subcommand_or_other, walk, walk_from, walked}
use Rattle.clap.specs.Simple.{entered, label_of, names_of, rows_at}
use Rattle.clap.specs.Kinds.{or_else}
use Rattle.clap.specs.Faults.{built_fault, check_fault, defaults_fault, entered_fault, level_fault, other_fault, settle_fault, step_fault, walk_fault}
use Rattle.clap.specs.declared.error.Error.{Error}
use Rattle.clap.specs.declared.error.kind.ErrorKind.TheVariants.{DisplayHelp, InvalidSubcommand}
use Rattle.clap.specs.declared.parser.matches.ArgMatches.{ArgMatches}
use Rattle.clap.proofs.WalkLemmas.{both, walk_stopped}
use Rattle.clap.proofs.FaultLemmas.{stopped_fault}
use Rattle.command_words.specs.declared.commands.CommandName.{CommandName}
use Rattle.command_words.specs.declared.commands.CommandName.TheVariants.{Plan}
use Rattle.command_words.specs.Jobs.{IsTaken, faults_of, texts_of}
use Rattle.command_words.specs.Program.{command_word, program, top, with_command}

-- the walk stops at a first word that names a subcommand
entering : (rules : List Rule) (names : Names) (word : Text) (words : List Text) → subcommand_met names idle word ≡ Some word
    → walk rules names nothing_held (word ∷ words) ≡ record (walk_from nothing_held) { stopped = Some (word, words) }
unfolding walked
entering rules names word words met =
    ap (λ (o : Option Text). let step = subcommand_or_other rules o idle 1 word nothing_held in fold (walked rules names)
    (after_step rules word (walk_from nothing_held) step.0 step.1) words) met
    ∙ sym (walk_stopped rules names (walk_from nothing_held) word [] words)

-- and nothing is at fault in it, unless it is that of help
faultless : (s : Shape) (names : Names) (word : Text) (words : List Text) → subcommand_met names idle word ≡ Some word → bytes_eq word (codes "help") ≡ false
    → walk_fault s names (walk_from nothing_held) (word ∷ words) ≡ []
unfolding walk_fault walked
faultless s names word words met other =
    ap (λ (o : Option Text). let step = subcommand_or_other s.rules o idle 1 word nothing_held in or_else
    (or_else (other_fault s o word nothing_held) (step_fault s 1 step.0 step.1))
    (walk_fault s names (after_step s.rules word (walk_from nothing_held) step.0 step.1) words)) met
    ∙ ap (λ (b : Bool). or_else (or_else (if b && not s.disable_help_subcommand then DisplayHelp ∷ InvalidSubcommand ∷ [] else []) [])
    (walk_fault s names (record (walk_from nothing_held) { stopped = Some (word, []) }) words)) other
    ∙ stopped_fault s names (walk_from nothing_held) (word, []) words

-- the subcommand of a built command that a word names
abbrev below : App → Text → Option Shape
below a word = find (λ s. answers_to word (label_of s)) a.subs

-- what is at fault after such a word, by the command and by its subcommand
abbrev faults_after : Shape → Option Shape → List Text → Kinds
faults_after s sub words =
    or_else (option_map_or (λ s. level_fault s [] nothing_held words false []) sub [])
    (or_else (defaults_fault [] s.rules) (check_fault s (finished s.rules nothing_held) (is_some (option_map (λ s. rows_at s words) sub))))

-- what a command finds, where the first word names its subcommand
reached : (a : App) (word : Text) (words given : List Text) → given ≡ word ∷ words → subcommand_met (names_of a) idle word ≡ Some word
    → bytes_eq word (codes "help") ≡ false
    → (built_fault a nothing_held given ≡ faults_after a.top (below a word) words)
    × (entered a (stop_after a.top.rules (names_of a) given) ≡ option_map (λ s. rows_at s words) (below a word))
reached a word words given is met other =
    let end = entering a.top.rules (names_of a) word words met in
    let faults = ap₂
    (λ (w : Walk) (k : Kinds). or_else k (or_else (entered_fault a w.stopped) (or_else (settle_fault a.top.rules a.top.args_override_self w.held)
    (or_else (defaults_fault (settled a.top.rules w.held).rows a.top.rules)
    (check_fault a.top (finished a.top.rules w.held) (is_some (entered a w.stopped)))))))
    end (faultless a.top (names_of a) word words met other) in
    (ap (built_fault a nothing_held) is ∙ faults, ap (λ ws. entered a (stop_after a.top.rules (names_of a) ws)) is ∙ ap (λ (w : Walk). entered a w.stopped) end)

-- the program with this command alone
abbrev pub alone : CommandName → App
alone name = with_command top name

-- the command's word names the same in both
abbrev Agree : CommandName → Type 0
Agree name =
    (is_simple_and_free (alone name) ≡ true) × (bytes_eq (command_word name) (codes "help") ≡ false)
    × (subcommand_met (names_of (built (alone name))) idle (command_word name) ≡ Some (command_word name))
    × (subcommand_met (names_of (built program)) idle (command_word name) ≡ Some (command_word name))
    × (below (built (alone name)) (command_word name) ≡ below (built program) (command_word name))

agree : (name : CommandName) → Agree name
agree Plan = (refl, refl, refl, refl, refl)
agree name = (refl, refl, refl, refl, refl)

-- so both find the same, where that word stands after the program's name
alike : (name : CommandName) (arguments : List Text) → drop 1 arguments ≡ command_word name ∷ drop 2 arguments
    → (fault_of (alone name) arguments ≡ fault_of program arguments) × (subcommand_of (alone name) arguments ≡ subcommand_of program arguments)
alike name arguments is =
    let words = drop 2 arguments in
    let (free, other, met, met_too, same) = agree name in
    let one = reached (built (alone name)) (command_word name) words (drop 1 arguments) is met other in
    let all = reached (built program) (command_word name) words (drop 1 arguments) is met_too other in (
      one.0 ∙ ap (λ (sub : Option Shape). faults_after (built program).top sub words) same ∙ sym all.0,
      one.1 ∙ ap (option_map (λ s. rows_at s words)) same
          ∙ sym all.1,
    )

-- and what the one matches, the whole program does
pub by_name : (a : App) (name : CommandName) (arguments : List Text) (r : Result ArgMatches Error) → a ≡ alone name → drop 1 arguments
    ≡ command_word name ∷ drop 2 arguments
    → IfOk r (HasMatchesOf a arguments) → (is_simple_and_free a ≡ true → FailsBy (fault_of a arguments) r)
    → IfSome (result_ok r) (λ found. subcommand_rows_of found ≡ subcommand_of program arguments) × OnSome (result_ok r) (IsTaken arguments)
unfolding faults_of
by_name a name arguments (Err e) is behind has fails = (tt, tt)
by_name a name arguments (Ok found) is behind has fails =
    let free = ap is_simple_and_free is ∙ (agree name).0 in
    let same = alike name arguments behind in
    ((has (both _ _ free).0).1 ∙ ap (λ (x : App). subcommand_of x arguments) is ∙ same.1, sym (ap (λ (x : App). fault_of x arguments) is ∙ same.0) ∙ fails free)

-- the word of a command after the program's name
pub word_after : {Z : Type 0} (arguments : List (String Z)) (word : String Z) (name : CommandName) → 1 < length arguments
    → ((d : String Z) → word ≡ get_or arguments 1 d) → command_word name ≡ string_bytes word
    → drop 1 (texts_of arguments) ≡ command_word name ∷ drop 2 (texts_of arguments)
word_after [] word name long at calls = absurd (omega arith)
word_after (x ∷ []) word name long at calls = absurd (omega arith)
word_after (x ∷ y ∷ rest) word name long at calls = ap (λ (t : Text). t ∷ texts_of rest) (ap (λ s. string_bytes s) (sym (at x)) ∙ sym calls)
