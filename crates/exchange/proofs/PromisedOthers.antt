-- The promises of what isn't asked for: no port, no file and no client's is opened for it.
use Rattle.std.proofs.Common.{◌≡◌, ◌∙◌, ℕ, Bool, true, List, [], Option, Some, None, Result, Ok, Err, OnErr, inl, inr, ◌⊎◌, refl, sym, ap, subst}
use Rattle.std.specs.Prelude.{option_map}
use Rattle.std.specs.Io.KnownBytes.{Appends}
use Rattle.std.proofs.KnownBytes.{Appends-nil}
use Rattle.batch_book.specs.History.{BookView}
use Rattle.clap.specs.Values.{kind_of}
use Rattle.clap.specs.Words.{IsAmong, Text}
use Rattle.clap.specs.declared.error.Error.{Error}
use Rattle.clap.specs.declared.error.kind.ErrorKind.{ErrorKind}
use Rattle.clap.specs.declared.error.kind.ErrorKind.TheVariants.{DisplayHelp, DisplayVersion}
use Rattle.command_words.specs.Jobs.{AskFor, Files, IsFaultIn, all_files, clients_of as names_of, faults_of, files_of}
use Rattle.command_words.specs.declared.jobs.ArgumentsFault.TheVariants.{Clap, NoMemory}
use Rattle.command_words.specs.declared.jobs.Job.{Job}
use Rattle.command_words.specs.declared.jobs.Job.TheVariants.{Ports as OverPorts, Sessions, Texts}
use Rattle.command_words.specs.declared.jobs.PortJob.TheVariants.{C004, Drive}
use Rattle.command_words.specs.declared.jobs.SessionJob.TheVariants.{Host, Serve, Talk}
use Rattle.command_words.specs.declared.jobs.Request.{Request}
use Rattle.drive_answers.specs.Ways.{Ways}
use Rattle.exchange.proofs.AskedJobs.{JobEnd, EndsSo, KeepsSo, end_of, ended_run}
use Rattle.command_words.proofs.OneRequest.{no_fault, one_request}
use Rattle.exchange.proofs.PromisedCalls.{none_ended}
use Rattle.exchange.specs.Ends.{IsCutFor, IsDoneInPart, IsEndWithoutArguments, IsNoneLeft, leaving}
use Rattle.exchange.specs.Keeping.{AreKeptBut}
use Rattle.exchange.specs.Opened.{AreOpenedFor, Opened, none_opened_by_name}
use Rattle.exchange.specs.Promises.{AskForHelp, AsksFor, IsMisused, KeepsNothing, KeepsUnread, LeavesAll, LeavesOthers, NoneServed, Run, World, clients_of, saved_by, run_of, world_of}
use Rattle.exchange.specs.Responses.{Given, IsAnswerTo, IsResponseTo, IsToldCut, Named, Response}
use Rattle.exchange.specs.declared.limits.TheConstants.{UNWRITTEN}
use Rattle.plan_answers.specs.declared.limits.TheConstants.{DONE}
use Rattle.recorded_sessions.specs.Keeping.{AreScriptsKept}
use Rattle.named_files.specs.Clients.{AreAdmitted, ends_of}
use Rattle.named_files.specs.Contents.{Holding, StandAmong}
use Rattle.named_files.specs.Outputs.{HasNothingGone, no_write_failures}
use Rattle.named_files.specs.Streams.{Closed}
use Rattle.named_files.specs.declared.write_failures.WriteFailures.{WriteFailures}
use Rattle.named_files.specs.declared.outputs.Receipts.{Receipts}
use Rattle.session_answers.specs.HostAnswers.{SessionEnd}
use Rattle.session_answers.specs.declared.ended_session.Ending.{Ending}

-- ---- what is left

module _ {C : Type 0} (received : C → Closed) (receipts : Receipts C) (comes : Text → Option (List ℕ)) (had : Text → List ℕ) (endings : List (Ending (List ℕ)))
    (opened : Opened) (idle : ends_of endings ≡ [] → opened.admitted ≡ []) (was after : Ways) (run : Run) (whole : Bool) where
  abbrev The : World
  The = record {
    run = run;
    whole = whole;
    before = was;
    after = after;
    kept = saved_by received receipts;
    clients = clients_of comes had endings;
    opened = opened;
  }

  none_served : ends_of endings ≡ [] → NoneServed The
  none_served none = (none_ended endings none, idle none)

  none_gone : (receipt : Option C) → HasNothingGone received None receipt → option_map received receipt ≡ None
  none_gone None is = refl
  none_gone (Some receipt) is = absurd is

  no_files : (left : Option BookView) (lost : WriteFailures) → left ≡ None → AreScriptsKept received None None left receipts lost
      → (option_map received receipts.recorded ≡ None) × (option_map received receipts.image ≡ None)
  no_files left lost none kept =
      let gone = subst (λ (l : Option BookView). AreScriptsKept received None None l receipts lost) none kept in
      (none_gone receipts.recorded gone.0, none_gone receipts.image gone.1)

  -- nothing was opened
  pub all_left : IsNoneLeft receipts was after (ends_of endings) → LeavesAll The
  all_left none = (
    none.1,
    ap (λ (r : Receipts C). option_map received r.recorded) none.0,
    ap (λ (r : Receipts C). option_map received r.image) none.0,
    none_served none.2,
  )

  -- then no more was than any job asks for
  all_left_by : (job : Job) → LeavesAll The → LeavesOthers The job
  all_left_by (Texts job) all = all
  all_left_by (OverPorts C004) all = all
  all_left_by (OverPorts (Drive batch port port_b source wiring first goes_on workers)) all = (all.1, all.2, all.3)
  all_left_by (Sessions rack (Serve scripts workers)) all = (all.0, all.3)
  all_left_by (Sessions rack (Host clients workers)) all = all.0
  all_left_by (Sessions rack Talk) all = (all.0, all.3)

  -- an answer to it leaves this
  answer_left : (holds : Holding) (job : Job) (files : Files (List ℕ)) (given : Given) (response : Response) (lost : WriteFailures) → given.ports ≡ was
      → response.ports ≡ after → response.ends ≡ ends_of endings → AreKeptBut holds received job response.left receipts lost
      → IsAnswerTo holds job files given response → LeavesOthers The job
  answer_left holds (Texts job) files given response lost same ports ends kept is = let none =
      no_files response.left lost is.0 kept in (sym ports ∙ is.2 ∙ same, none.0, none.1, none_served (sym ends ∙ is.1))
  answer_left holds (OverPorts C004) files given response lost same ports ends kept is = let none =
      no_files response.left lost is.0 kept in (sym ports ∙ is.2.1 ∙ same, none.0, none.1, none_served (sym ends ∙ is.1))
  answer_left holds (OverPorts (Drive batch port port_b source wiring first goes_on workers)) files given response lost same ports ends kept is = let none =
      no_files response.left lost is.0 kept in (none.0, none.1, none_served (sym ends ∙ is.1))
  answer_left holds (Sessions rack (Serve scripts workers)) files given response lost same ports ends kept is =
      (sym ports ∙ is.0 ∙ same, none_served (sym ends ∙ is.1.2))
  answer_left holds (Sessions rack (Host clients workers)) files given response lost same ports ends kept is = sym ports ∙ is.0 ∙ same
  answer_left holds (Sessions rack Talk) files given response lost same ports ends kept is = (sym ports ∙ is.0 ∙ same, none_served (sym ends ∙ is.1.2))

  -- so does a refusal before it
  none_left : (holds : Holding) (job : Job) (lost : WriteFailures) → after ≡ was → ends_of endings ≡ [] → AreKeptBut holds received job None receipts lost
      → LeavesOthers The job
  none_left holds (Texts job) lost ports ends kept = let none = no_files None lost refl kept in (ports, none.0, none.1, none_served ends)
  none_left holds (OverPorts C004) lost ports ends kept = let none = no_files None lost refl kept in (ports, none.0, none.1, none_served ends)
  none_left holds (OverPorts (Drive batch port port_b source wiring first goes_on workers)) lost ports ends kept = let none =
      no_files None lost refl kept in (none.0, none.1, none_served ends)
  none_left holds (Sessions rack (Serve scripts workers)) lost ports ends kept = (ports, none_served ends)
  none_left holds (Sessions rack (Host clients workers)) lost ports ends kept = ports
  none_left holds (Sessions rack Talk) lost ports ends kept = (ports, none_served ends)

  response_left : (named : Named) (given : Given) (job : Job) (response : Response) (lost : WriteFailures) → given.ports ≡ was → response.ports ≡ after
      → KeepsSo named.holds received receipts (ends_of endings) lost job response → IsResponseTo named given job response → LeavesOthers The job
  response_left named given job response lost same ports kept (inl comes) = answer_left named.holds job comes.1.0 _ response lost same ports kept.1 kept.0
      comes.1.3
  response_left named given job response lost same ports kept (inr none) =
      none_left named.holds job lost (sym ports ∙ none.1 ∙ same) (sym kept.1 ∙ none.2)
      (subst (λ (l : Option BookView). AreKeptBut named.holds received job l receipts lost) none.3 kept.0)

  -- so does what was told before an answer that couldn't all be written
  cut_left : (holds : Holding) (job : Job) (files : Files (List ℕ)) (input : Option (List ℕ)) (told : List ℕ) → IsToldCut job files input was after told
      → ends_of endings ≡ [] → AreKeptBut holds received job None receipts no_write_failures → LeavesOthers The job
  cut_left holds (OverPorts C004) files input told is none kept = let gone = no_files None no_write_failures refl
      kept in (is.1, gone.0, gone.1, none_served none)
  cut_left holds (OverPorts (Drive batch port port_b source wiring first goes_on workers)) files input told is none kept = let gone =
      no_files None no_write_failures refl kept in (gone.0, gone.1, none_served none)
  cut_left holds job files input told is none kept = absurd is

-- ---- help

-- whether an error of this kind helps
help_or_not : (k : ErrorKind) → ((k ≡ DisplayHelp) ⊎ (k ≡ DisplayVersion)) ⊎ ((k ≡ DisplayHelp) ⊎ (k ≡ DisplayVersion) → ⊥)
help_or_not DisplayHelp = inl (inl refl)
help_or_not DisplayVersion = inl (inr refl)
help_or_not k = inr (λ helps. elim helps [ inl is ↦ absurd (cc) | inr is ↦ absurd (cc) ])

among : (words : List Text) (error : Error) → IsFaultIn words (Clap error) → (kind_of error ≡ DisplayHelp) ⊎ (kind_of error ≡ DisplayVersion) → AskForHelp words
among words error (known, inl there) (inl is) = inl (subst (λ (k : ErrorKind). IsAmong k (faults_of words)) is there)
among words error (known, inl there) (inr is) = inr (subst (λ (k : ErrorKind). IsAmong k (faults_of words)) is there)
among words error (known, inr (taken, mistake, none)) helps = absurd (mistake.1 helps)

same_out : (before after : Option (List ℕ)) → after ≡ before → Appends before after []
same_out before after same = subst (λ (o : Option (List ℕ)). Appends before o []) (sym same) (Appends-nil before)

-- ---- the promises

module _ {C : Type 0} (received : C → Closed) (receipts : Receipts C) (comes : Text → Option (List ℕ)) (had : Text → List ℕ) (endings : List (Ending (List ℕ)))
    (opened : Opened) (idle : ends_of endings ≡ [] → opened.admitted ≡ []) (after : Ways) where
  abbrev World1 : Ways → Run → Bool → World
  World1 was run whole = The received receipts comes had endings opened idle was after run whole

  -- where all was written
  module _ (e : JobEnd) (ports : (job : Job) (response : Response) → e.keeps job response → response.ports ≡ after) (so : (job : Job) (response : Response)
      → e.keeps job response → KeepsSo e.named.holds received receipts (ends_of endings) no_write_failures job response)
      (none : e.none → IsNoneLeft receipts e.given.ports after (ends_of endings)) (is : EndsSo e) where
    pub keeps_others : (job : Job) → AsksFor (ended_run e) job → LeavesOthers (World1 e.given.ports (ended_run e) true) job
    keeps_others job asks = elim (end_of e (record { job = job; is_quiet = asks.0 }) asks.1 is) [
      | inl done ↦ response_left received receipts comes had endings opened idle e.given.ports after (ended_run e) true e.named e.given job done.0 no_write_failures refl
          (ports job done.0 done.2) (so job done.0 done.2) done.1
      | inr gives_up ↦ all_left_by received receipts comes had endings opened idle e.given.ports after (ended_run e) true job
          (all_left received receipts comes had endings opened idle e.given.ports after (ended_run e) true (none gives_up.0))
    ]

    pub keeps_nothing : (((request : Request) → AskFor e.words request → ⊥) → opened.read ≡ []) → KeepsNothing (World1 e.given.ports (ended_run e) true)
    keeps_nothing unread nothing = let left = by is in ((left.0, unread nothing), left.1)
      where
        by : EndsSo e → LeavesAll (World1 e.given.ports (ended_run e) true) × (IsMisused (ended_run e) ⊎ ((e.code ≡ DONE) × AskForHelp e.words))
        by (Ok request, has, wrong, done) = absurd (nothing request has)
        by (Err NoMemory, has, wrong, ends) = (
          all_left received receipts comes had endings opened idle e.given.ports after (ended_run e) true (none ends.0),
          inl (inr (inl (ends.1.0.status, ends.1.0.text))),
        )
        by (Err (Clap error), has, wrong, ends) = (
          all_left received receipts comes had endings opened idle e.given.ports after (ended_run e) true (none ends.0),
          elim (help_or_not (kind_of error)) [
            | inl helps ↦ inr ((ends.1.0 helps).0, among e.words error wrong helps)
            | inr mistaken ↦ let told = ends.1.1 mistaken in inl (inl (told.0, same_out e.streams.out_before e.streams.out_after told.1))
          ],
        )

  -- where not all was
  module _ (words : List Text) (named : Named) (given : Given) (before behind : Option (List ℕ)) (run : Run) (whole : Bool)
      (cut : IsCutFor named (leaving named.holds received receipts given.ports after (ends_of endings)) words given before behind) where
    part_left : (request : Request) → IsDoneInPart named (leaving named.holds received receipts given.ports after (ends_of endings)) given request before behind
        → LeavesOthers (World1 given.ports run whole) request.job
    part_left request (inl (response, is, kept, part)) =
        response_left received receipts comes had endings opened idle given.ports after run whole named given request.job response kept.0.0 refl kept.1 (kept.0.1, kept.2)
        is
    part_left request (inr (told, is, kept, part)) =
        cut_left received receipts comes had endings opened idle given.ports after run whole named.holds request.job is.1 is.2 told is.4 is.5 kept

    pub cut_others : (job : Job) (quiet : Bool) → AskFor words (record { job = job; is_quiet = quiet }) → LeavesOthers (World1 given.ports run whole) job
    cut_others job quiet asks = by cut
      where
        by : IsCutFor named (leaving named.holds received receipts given.ports after (ends_of endings)) words given before behind
            → LeavesOthers (World1 given.ports run whole) job
        by (Ok other, has, wrong, done) =
            subst (λ (r : Request). LeavesOthers (World1 given.ports run whole) r.job)
            (one_request words other (record { job = job; is_quiet = quiet }) has asks) (part_left other done)
        by (Err NoMemory, has, wrong, none) = all_left_by received receipts comes had endings opened idle given.ports after run whole job
            (all_left received receipts comes had endings opened idle given.ports after run whole none.0)
        by (Err (Clap error), has, wrong, none) = absurd (no_fault words (record { job = job; is_quiet = quiet }) error asks wrong)

    pub cut_nothing : run.words ≡ words → run.status ≡ UNWRITTEN → (((request : Request) → AskFor words request → ⊥) → opened.read ≡ [])
        → KeepsNothing (World1 given.ports run whole)
    cut_nothing same unwritten unread nothing = let left = by cut in (
      (left.0, unread (λ request asks. nothing request (subst (λ (ws : List Text). AskFor ws request) (sym same) asks))),
      left.1,
    )
      where
        by : IsCutFor named (leaving named.holds received receipts given.ports after (ends_of endings)) words given before behind
            → LeavesAll (World1 given.ports run whole) × (IsMisused run ⊎ ((run.status ≡ DONE) × AskForHelp run.words))
        by (Ok request, has, wrong, done) = absurd (nothing request (subst (λ (ws : List Text). AskFor ws request) (sym same) has))
        by (Err NoMemory, has, wrong, none) = (all_left received receipts comes had endings opened idle given.ports after run whole none.0, inl (inr (inr unwritten)))
        by (Err (Clap error), has, wrong, none) = (all_left received receipts comes had endings opened idle given.ports after run whole none.0, inl (inr (inr unwritten)))

-- where the arguments can't be read
pub keeps_unread : {C X E : Type 0} (received : C → Closed) (receipts : Receipts C) (comes : Text → Option (List ℕ)) (had : Text → List ℕ)
    (endings : List (Ending (List ℕ))) (opened : Opened) (after : Ways) (arguments : Result X E) (holds : Holding) (input before behind : Option (List ℕ))
    (was : Ways) (code : ℕ)
    → OnErr arguments (IsNoneLeft receipts was after (ends_of endings) × ((code ≡ UNWRITTEN) ⊎ IsEndWithoutArguments before behind code))
    → OnErr arguments (opened ≡ none_opened_by_name)
    → OnErr arguments
    (KeepsUnread (world_of (run_of holds input (Appends before behind) [] code) was after (saved_by received receipts) (clients_of comes had endings) opened))
keeps_unread received receipts comes had endings opened after (Ok words) holds input before behind was code is none = tt
keeps_unread received receipts comes had endings opened after (Err error) holds input before behind was code is none =
    let left = all_left received receipts comes had endings opened (λ ends. ap (λ (o : Opened). o.admitted) none) was after
    (run_of holds input (Appends before behind) [] code) true is.0 in
    ((left, ap (λ (o : Opened). o.read) none), misused is.1)
  where
    misused : (code ≡ UNWRITTEN) ⊎ IsEndWithoutArguments before behind code → IsMisused (run_of holds input (Appends before behind) [] code)
    misused (inl unwritten) = inr (inr unwritten)
    misused (inr (inl printed)) = inr (inl (printed.status, printed.text))
    misused (inr (inr told)) = inl (told.0, same_out before behind told.1)

-- ---- which files were opened by name

-- without an end of a session, no client's were
pub idle_so : (words : List Text) (ends : List SessionEnd) (opened : Opened) → AreOpenedFor words ends opened → ends ≡ [] → opened.admitted ≡ []
idle_so words ends opened (inl is) none = subst (λ (es : List SessionEnd). AreAdmitted (names_of is.0.job) es opened.admitted) none is.2
idle_so words ends opened (inr is) none = ap (λ (o : Opened). o.admitted) is.1

-- they are those of the job that is asked for
pub opened_so : (words : List Text) (ends : List SessionEnd) (opened : Opened) → AreOpenedFor words ends opened → (request : Request) → AskFor words request
    → AreAdmitted (names_of request.job) ends opened.admitted × StandAmong opened.read (all_files (files_of request.job))
opened_so words ends opened (inl is) request asks =
    subst (λ (r : Request). AreAdmitted (names_of r.job) ends opened.admitted × StandAmong opened.read (all_files (files_of r.job)))
    (one_request words is.0 request is.1 asks) (is.2, is.3)
opened_so words ends opened (inr is) request asks = (
  subst (λ (es : List SessionEnd). AreAdmitted (names_of request.job) es opened.admitted) (sym is.0) (ap (λ (o : Opened). o.admitted) is.1),
  subst (λ (o : Opened). StandAmong o.read (all_files (files_of request.job))) (sym is.1) tt,
)

-- without a job none were read
pub unread_so : (words : List Text) (ends : List SessionEnd) (opened : Opened) → AreOpenedFor words ends opened
    → ((request : Request) → AskFor words request → ⊥) → opened.read ≡ []
unread_so words ends opened (inl is) nothing = absurd (nothing is.0 is.1)
unread_so words ends opened (inr is) nothing = ap (λ (o : Opened). o.read) is.1
