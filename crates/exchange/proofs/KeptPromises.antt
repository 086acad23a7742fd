-- The program keeps its promises.
use Rattle.std.proofs.Common.{◌≡◌, ◌≢◌, ◌∙◌, ◌++◌, ℕ, Bool, true, false, not, List, [], ◌∷◌, map, Option, Some, None, inl, inr, ◌⊎◌, refl, sym, ap, subst, arith, Ok, Err}
use Rattle.std.specs.Prelude.{IfSome, option_map, option_to_list, ⊤}
use Rattle.std.specs.Io.KnownBytes.{Appends}
use Rattle.std.specs.List.{AllByRecursion}
use Rattle.std.proofs.lemmas.Bool.{false≢true}
use Rattle.std.proofs.lemmas.List.Elements.{recursion_from_All}
use Rattle.clap.specs.Words.{Text}
use Rattle.command_words.specs.Jobs.{AskFor, Files, MayHaveName, all_files, clients_of as names_of, file, file_uses, files_beside, files_of, files_read, input_name, kept_files, recorded_in}
use Rattle.command_words.specs.declared.jobs.Job.{Job}
use Rattle.command_words.specs.declared.jobs.Job.TheVariants.{Texts, Ports as OverPorts, Sessions}
use Rattle.command_words.specs.declared.jobs.TextJob.{TextJob}
use Rattle.command_words.specs.declared.jobs.TextJob.TheVariants.{Apply, Check, Direct, Draw, Orders, Plan, Prices, Replay, Run as RunJob, Switch as SwitchJob}
use Rattle.command_words.specs.declared.jobs.PortJob.TheVariants.{C004, Drive}
use Rattle.command_words.specs.declared.jobs.SessionJob.{SessionJob}
use Rattle.command_words.specs.declared.jobs.SessionJob.TheVariants.{Host, Serve, Talk}
use Rattle.command_words.specs.declared.jobs.RecordFile.{RecordFile}
use Rattle.command_words.specs.declared.jobs.SharedRack.{SharedRack}
use Rattle.command_words.specs.declared.uses.Access.TheVariants.{Read}
use Rattle.command_words.proofs.OneRequest.{no_fault, one_request}
use Rattle.command_words.specs.declared.jobs.Request.{Request}
use Rattle.command_words.specs.declared.jobs.ArgumentsFault.TheVariants.{Clap, NoMemory}
use Rattle.batch_book.specs.History.{BookView}
use Rattle.drive_answers.specs.Answers.{IsDriveAnswer}
use Rattle.drive_answers.specs.Ways.{Ways}
use Rattle.exchange.proofs.AskedJobs.{Answers, JobEnd, EndsSo, JobsCome, KeepsSo, SessionsCome, all_written, asks_nothing, cut_ends, ended_run, ends_well, jobs_come, sessions_come}
use Rattle.exchange.proofs.AskedJobs.{end_of, text_ends, the_run}
use Rattle.exchange.proofs.EndStatuses.{IsEither, gave_up, given_up, never_done}
use Rattle.exchange.proofs.HeldFiles.{alone, earlier, held_files, pass}
use Rattle.exchange.proofs.PromisedCalls.{Had, behind, before, clients_come, kept_named, live_unbegun, none_begun, scripts_come, scripts_unbegun, talk_comes}
use Rattle.exchange.proofs.PromisedDrives.{DroveOr, cut_so, drove_so}
use Rattle.exchange.proofs.PromisedOthers.{all_left, cut_nothing, cut_others, idle_so, keeps_nothing, keeps_others, opened_so, unread_so}
use Rattle.exchange.proofs.PromisedPictures.{drawn_so, priced_so}
use Rattle.exchange.proofs.PromisedPlans.{checked, directed, planned}
use Rattle.exchange.proofs.PromisedRefusals.{wrong_of}
use Rattle.exchange.proofs.PromisedReplays.{replayed_so}
use Rattle.exchange.proofs.PromisedReplies.{replies}
use Rattle.exchange.proofs.PromisedRuns.{applied, ran_so}
use Rattle.exchange.proofs.PromisedSwitches.{ordered, switched_so}
use Rattle.exchange.specs.Drives.{names_in}
use Rattle.exchange.specs.Ends.{IsCutFor, leaving}
use Rattle.exchange.specs.Keeping.{AreKeptBut}
use Rattle.exchange.specs.Opened.{AreOpenedFor, Opened}
use Rattle.exchange.specs.Promises.{AsksFor, Comes, HasGivenUp, IsAsItWas, IsDone, IsEmpty, IsUndone, KeepsJobs, KeepsPromises, LeavesAll, LeavesOthers, Run, World, clients_of, saved_by, world_of}
use Rattle.exchange.specs.Responses.{Given, IsResponseTo, IsTextAnswer, Named, Response, source_in, text_in}
use Rattle.exchange.specs.declared.limits.TheConstants.{MISUSED, UNWRITTEN}
use Rattle.named_files.specs.Clients.{AreAdmitted, clients_by, ends_of}
use Rattle.named_files.specs.Contents.{AreContents, Holding, StandAmong}
use Rattle.named_files.specs.DistinctFiles.{AreSeenApart, Leading}
use Rattle.named_files.specs.Notes.{GivesUp, IsToldInPart}
use Rattle.named_files.specs.Outputs.{no_write_failures, none_opened}
use Rattle.named_files.specs.Streams.{Closed}
use Rattle.named_files.specs.declared.write_failures.WriteFailures.{WriteFailures}
use Rattle.named_files.specs.declared.outputs.Receipts.{Receipts}
use Rattle.plan_answers.specs.Refusals.{Printed}
use Rattle.plan_answers.specs.declared.limits.TheConstants.{DONE, REFUSED}
use Rattle.plan_answers.specs.declared.source.ScheduleSource.{ScheduleSource}
use Rattle.session_answers.specs.declared.ended_session.Ending.{Ending}
use Rattle.switch_driver.specs.Lines.{Dialogue, TellsLine}

-- ---- sessions

-- a record isn't written to standard input
record_named : (rack : SharedRack) (job : SessionJob) (words : List Text) (quiet : Bool) → AskFor words (record { job = Sessions rack job; is_quiet = quiet })
    → (out : RecordFile) → rack.record_out ≡ Some out → out.name ≢ input_name
record_named rack job words quiet asks out is =
    let all = recursion_from_All MayHaveName (file_uses (Sessions rack job)) asks.job.files.each in
    let beside = behind MayHaveName (map (file Read) (files_read (Sessions rack job))) (files_beside (Sessions rack job)) all in
    kept_named (recorded_in rack) rack.image_out out.name (ap (λ (o : Option RecordFile). option_map (λ (r : RecordFile). r.name) o) is)
    (before MayHaveName (kept_files rack) _ beside)

names_before : (front back : List Text) → AllByRecursion (λ n. n ≢ input_name) (front ++ back) → AllByRecursion (λ n. n ≢ input_name) front
names_before [] back all = tt
names_before (n ∷ front) back all = (all.0, names_before front back all.1)

-- the image isn't standard input, so all of that is left for the client
talk_reads : (holds : Holding) (input : Option (List ℕ)) (rack : SharedRack) (words : List Text) (quiet : Bool)
    → AskFor words (record { job = Sessions rack Talk; is_quiet = quiet }) → (files : Files (List ℕ)) (rest : Option (List ℕ))
    → AreContents holds input (files_of (Sessions rack Talk)) files rest → rest ≡ input
talk_reads holds input rack words quiet asks files rest r =
    let lone = alone (files_read (Sessions rack Talk)) (files_beside (Sessions rack Talk)) asks.job.files.apart in
    let other = names_before (option_to_list rack.image) [] (earlier (option_to_list rack.image ++ []) input_name [] lone refl) in
    pass holds r.3 [] files.scripts rest tt r.8 ∙ (pass holds r.2 [] (option_to_list files.wiring) r.3 tt r.7
    ∙ (pass holds r.1 [] (option_to_list files.schedule) r.2 tt r.6
    ∙ (pass holds r.0 [] (option_to_list files.list) r.1 tt r.5 ∙ pass holds input (option_to_list rack.image) (option_to_list files.image) r.0 other r.4)))

known_came : (known : Option (List ℕ)) (came : List ℕ) → IfSome known (λ text. text ≡ came) → IfSome known (λ text. came ≡ text)
known_came None came is = tt
known_came (Some text) came is = sym is

-- ---- files apart

abbrev pub IsApart : Leading → World → Job → Type 0
IsApart leads w job = AreSeenApart leads (file_uses job) ⊎ ((HasGivenUp w.run ⊎ (w.run.status ≡ UNWRITTEN)) × IsUndone w job)

-- where nothing is left, nothing is of a job
all_undone : (w : World) (job : Job) → LeavesAll w → IsUndone w job
all_undone w (Texts job) all = all
all_undone w (OverPorts job) all = all
all_undone w (Sessions rack (Serve scripts workers)) all =
    (subst (IsEmpty (recorded_in rack)) (sym all.1) tt, subst (IsEmpty rack.image_out) (sym all.2) tt)
all_undone w (Sessions rack (Host names workers)) all =
    (subst (IsAsItWas w.run rack.record_out names) (sym all.1) tt, subst (IsEmpty rack.image_out) (sym all.2) tt, all.3)
all_undone w (Sessions rack Talk) all =
    (subst (IsAsItWas w.run rack.record_out []) (sym all.1) tt, subst (IsEmpty rack.image_out) (sym all.2) tt, all.3)

module _ (named : Named) (given : Given) (words : List Text) (prints : List ℕ → Type 0) (status : ℕ) where
  abbrev The0 : Run
  The0 = the_run named given words prints status

  by_name : (rack : SharedRack) (job : SessionJob) → AsksFor The0 (Sessions rack job) → (out : RecordFile) (text : List ℕ) → rack.record_out ≡ Some out
      → named.holds out.name text → The0.holds out.name text
  by_name rack job asks out text is holds = (λ input. absurd (record_named rack job words asks.0 asks.1 out is input), λ other. holds)

  module _ {C : Type 0} (received : C → Closed) (receipts : Receipts C) (comes : Text → Option (List ℕ)) (had : Text → List ℕ)
      (endings : List (Ending (List ℕ))) (opened : Opened) (idle : ends_of endings ≡ [] → opened.admitted ≡ []) (after : Ways) where
    abbrev W0 : World
    W0 = world_of The0 given.ports after (saved_by received receipts) (clients_of comes had endings) opened

    -- where a job has no answer nothing is left of it
    undone : (job : Job) → AsksFor The0 job → LeavesOthers W0 job → (lost : WriteFailures) → AreKeptBut named.holds received job None receipts lost
        → after ≡ given.ports → ends_of endings ≡ [] → IsUndone W0 job
    undone (Texts job) asks others lost kept ports ends = others
    undone (OverPorts C004) asks others lost kept ports ends = others
    undone (OverPorts (Drive batch port port_b from wiring first goes_on workers)) asks others lost kept ports ends = (ports, others.0, others.1, others.2)
    undone (Sessions rack (Serve scripts workers)) asks others lost kept ports ends =
        scripts_unbegun received receipts lost named given The0 false after comes had endings opened idle (λ all. absurd (false≢true all)) rack scripts workers kept
    undone (Sessions rack (Host names workers)) asks others lost kept ports ends =
        live_unbegun received receipts lost named given The0 false after comes had endings opened idle (λ all. absurd (false≢true all)) rack
        (by_name rack (Host names workers) asks) names kept ends
    undone (Sessions rack Talk) asks others lost kept ports ends =
        live_unbegun received receipts lost named given The0 false after comes had endings opened idle (λ all. absurd (false≢true all)) rack (by_name rack Talk asks) []
        kept ends

    apart_by : (job : Job) → AsksFor The0 job → LeavesOthers W0 job → (response : Response) → IsResponseTo named given job response → response.ports ≡ after
        → (lost : WriteFailures) → KeepsSo named.holds received receipts (ends_of endings) lost job response
        → (GivesUp response.end → response.told ≡ [] → HasGivenUp The0 ⊎ (status ≡ UNWRITTEN)) → IsApart named.leads W0 job
    apart_by job asks others response (inl comes) ports lost kept gives = inl comes.0
    apart_by job asks others response (inr none) ports lost kept gives = inr (
      gives none.4 none.0,
      undone job asks others lost (subst (λ (l : Option BookView). AreKeptBut named.holds received job l receipts lost) none.3 kept.0)
          (sym ports ∙ none.1) (sym kept.1 ∙ none.2),
    )

    -- the same where not all could be written
    apart_in_part : (out_before out_after : Option (List ℕ)) → IsCutFor named (leaving named.holds received receipts given.ports after (ends_of endings)) words given
        out_before out_after → status ≡ UNWRITTEN → (job : Job) → AsksFor The0 job → LeavesOthers W0 job → IsApart named.leads W0 job
    apart_in_part out_before out_after (Ok other, has, wrong, inl (response, answers, keeping, part)) unwritten job asks others =
        let same = ap (λ (r : Request). r.job) (one_request words other (record { job = job; is_quiet = asks.0 }) has asks.1) in
        apart_by job asks others response (subst (λ (j : Job). IsResponseTo named given j response) same answers) keeping.1 keeping.0.0
        (subst (λ (j : Job). KeepsSo named.holds received receipts (ends_of endings) keeping.0.0 j response) same (keeping.0.1, keeping.2))
        (λ gives told. inr unwritten)
    apart_in_part out_before out_after (Ok other, has, wrong, inr (told, cut, keeping, part)) unwritten job asks others =
        inl (subst (λ (r : Request). AreSeenApart named.leads (file_uses r.job)) (one_request words other (record { job = job; is_quiet = asks.0 }) has asks.1)
        cut.0)
    apart_in_part out_before out_after (Err NoMemory, has, wrong, none) unwritten job asks others =
        inr (inr unwritten, all_undone W0 job (all_left received receipts comes had endings opened idle given.ports after The0 true none.0))
    apart_in_part out_before out_after (Err (Clap error), has, wrong, none) unwritten job asks others =
        absurd (no_fault words (record { job = job; is_quiet = asks.0 }) error asks.1 wrong)

-- ---- each job

text_done : (w : World) (job : TextJob) (texts : Files (List ℕ)) (printed : Printed) → printed.status ≡ DONE → IsTextAnswer job texts printed
    → IsDone w (Texts job) texts printed.text
text_done w (Plan file planning workers) texts printed done is = planned planning (text_in texts.list) printed done is
text_done w (Check batch schedule) texts printed done is = checked (text_in texts.list) (text_in texts.schedule) printed done is
text_done w (Draw batch schedule chosen) texts printed done is = drawn_so (text_in texts.list) (text_in texts.schedule) chosen is.0 printed done is.1
text_done w (Prices batch schedule) texts printed done is = priced_so (text_in texts.list) (text_in texts.schedule) printed done is
text_done w (SwitchJob batch scheduled wiring has_two workers) texts printed done is = switched_so scheduled has_two texts printed done is
text_done w (Orders batch scheduled only workers) texts printed done is = ordered scheduled only texts printed done is
text_done w (Direct moves) texts printed done is = directed (text_in texts.list) printed done is
text_done w (Apply shape batch image workers) texts printed done is = applied shape (text_in texts.list) (text_in texts.schedule) printed done is
text_done w (RunJob shape batch scheduled image workers) texts printed done is = ran_so shape scheduled texts printed done is
text_done w (Replay shape recorded image first) texts printed done is = replayed_so shape (text_in texts.list) texts.image first printed is.0 is.1 done is.2

module _ {C : Type 0} (received : C → Closed) (receipts : Receipts C) (comes : Text → Option (List ℕ)) (had : Text → List ℕ) (endings : List (Ending (List ℕ)))
    (opened : Opened) (idle : ends_of endings ≡ [] → opened.admitted ≡ [])
    (named : Named) (given : Given) (known : given.clients ≡ clients_by comes had)
    (words : List Text) (after : Ways) (prints : List ℕ → Type 0) (status : ℕ) (whole : Bool) (may : WriteFailures → Type 0)
    (none_lost : (lost : WriteFailures) → may lost → whole ≡ true → lost ≡ no_write_failures)
    (its : (request : Request) → AskFor words request
    → AreAdmitted (names_of request.job) (ends_of endings) opened.admitted × StandAmong opened.read (all_files (files_of request.job))) where
  abbrev The : Run
  The = the_run named given words prints status

  abbrev W : World
  W = record {
    run = The;
    whole = whole;
    before = given.ports;
    after = after;
    kept = saved_by received receipts;
    clients = clients_of comes had endings;
    opened = opened;
  }

  read_once : (job : Job) → AsksFor The job → StandAmong opened.read (all_files (files_of job))
  read_once job asks = (its (record { job = job; is_quiet = asks.0 }) asks.1).1

  had_so : SessionsCome named given received receipts (ends_of endings) may The → (rack : SharedRack) (job : SessionJob) → AsksFor The (Sessions rack job)
      → Had W rack job
  had_so come rack (Serve scripts workers) asks = elim (come rack (Serve scripts workers) asks) [
    | inl c ↦ scripts_come received receipts c.0 named given The whole after comes had endings opened idle (none_lost c.0 c.1) rack scripts workers
        (λ files rest reads. held_files words (record { job = Sessions rack (Serve scripts workers); is_quiet = asks.0 }) named.holds given.input files rest
        asks.1 reads) c.2
    | inr none ↦ inr (
      (
        inl none.prints,
        none_begun received receipts no_write_failures named given The whole after comes had endings opened idle
            (λ all. refl) rack (Serve scripts workers) none,
      ),
      none.status,
    )
  ]
  had_so come rack (Host names workers) asks = elim (come rack (Host names workers) asks) [
    | inl c ↦ clients_come received receipts c.0 named given The whole after comes had endings opened idle (none_lost c.0 c.1) rack
        (by_name named given words prints status rack (Host names workers) asks) names workers
        (its (record { job = Sessions rack (Host names workers); is_quiet = asks.0 }) asks.1).0 (ap (λ clients. clients names) known)
        (λ files rest reads. held_files words (record { job = Sessions rack (Host names workers); is_quiet = asks.0 }) named.holds given.input files rest asks.1
        reads) c.2
    | inr none ↦ inr (
      (
        inl none.prints,
        none_begun received receipts no_write_failures named given The whole after comes had endings opened idle
            (λ all. refl) rack (Host names workers) none,
      ),
      none.status,
    )
  ]
  had_so come rack Talk asks = elim (come rack Talk asks) [
    | inl c ↦ talk_comes received receipts c.0 named given The whole after comes had endings opened idle (none_lost c.0 c.1) rack
        (by_name named given words prints status rack Talk asks)
        (λ rest files reads came is. (
          λ same. known_came given.input came
              (subst (λ (o : Option (List ℕ)). IfSome o (λ text. text ≡ came)) (talk_reads named.holds given.input rack words asks.0 asks.1 files rest reads) is),
          λ other. absurd (other refl),
        ))
        (λ files rest reads. held_files words (record { job = Sessions rack Talk; is_quiet = asks.0 }) named.holds given.input files rest asks.1 reads) c.2
    | inr none ↦ inr (
      (
        inl none.prints,
        none_begun received receipts no_write_failures named given The whole after comes had endings opened idle
            (λ all. refl) rack Talk none,
      ),
      none.status,
    )
  ]

  -- a drive
  module _ (batch port : Text) (port_b : Option Text) (from : ScheduleSource Text) (wiring : Option Text) (first : ℕ) (goes_on : Bool) (workers : ℕ) where
    abbrev Drives : Job
    Drives = OverPorts (Drive batch port port_b from wiring first goes_on workers)

    drove : AsksFor The Drives → JobsCome named given after The → Comes The Drives (DroveOr W (names_in port port_b) from first)
        ⊎ ((HasGivenUp The × (after ≡ given.ports)) × (status ≡ REFUSED))
    drove asks come = elim (come (record { job = Drives; is_quiet = asks.0 }) asks.1) [
      | inl r ↦ elim r.is [
        | inl comes ↦
            let is = comes.1 in
            let by = is.3.2 in
            let start : Dialogue = record { told = []; left = is.1 } in
            let final : Dialogue = record { told = r.response.told; left = by.0 } in
            inl (
              is.0,
              r.response.told ++ r.response.end.text,
              held_files words (record { job = Drives; is_quiet = asks.0 }) named.holds given.input is.0 is.1 asks.1 is.2,
              r.prints,
              drove_so W from first (names_in port port_b) is.0 goes_on start final r.response.end refl r.status
                  (subst (λ (o : Ways). IsDriveAnswer (TellsLine (not goes_on)) (source_in from (text_in is.0.schedule)) (text_in is.0.list) is.0.wiring first
                  (names_in port port_b) given.ports o start final r.response.end) r.ports_are by.1),
            )
        | inr none ↦
            let text = subst (λ (told : List ℕ). prints (told ++ r.response.end.text)) none.0 r.prints in
            inr ((gave_up The r.response.end none.4 text, sym r.ports_are ∙ none.1), r.status ∙ given_up r.response.end none.4)
      ]
      | inr other ↦ elim other [
        | inl t ↦
            let is = t.cut in
            let c = cut_so W from first (names_in port port_b) is.1 goes_on is.2 is.4.0 t.told t.status is.4.1 in
            inl (
              is.1,
              t.told ++ c.0,
              held_files words (record { job = Drives; is_quiet = asks.0 }) named.holds given.input is.1 is.2 asks.1 is.3,
              t.prints c.0,
              inl c.1,
            )
        | inr none ↦ inr ((inl none.prints, none.ports_are), none.status)
      ]
    ]

  comes_as : {P Q : Files (List ℕ) → List ℕ → Type 0} (job : Job) → ((texts : Files (List ℕ)) (printed : List ℕ) → P texts printed → Q texts printed)
      → Comes The job P → Comes The job Q
  comes_as job so c = (c.0, c.1, c.2, c.3, so c.0 c.1 c.4)

  -- all jobs, where the status is that of an answer or of a refusal
  pub keeps_jobs : Answers The → JobsCome named given after The → SessionsCome named given received receipts (ends_of endings) may The → (status ≢ MISUSED)
      → ((job : Job) → AsksFor The job → LeavesOthers W job) → KeepsJobs W
  keeps_jobs all come sessions used others (Texts job) asks = record {
    done = λ done. elim (all job asks) [
      | inl is ↦ (is.files, is.printed.text, is.held, is.prints, text_done W job is.files is.printed (sym is.status ∙ done) is.answer)
      | inr gives_up ↦ absurd (never_done status gives_up.1 done)
    ];
    refused = λ refused. elim (all job asks) [
      | inl is ↦ inl (is.files, is.printed.text, is.held, is.prints, wrong_of job is.files is.printed is.answer (sym is.status ∙ refused))
      | inr gives_up ↦ inr (gives_up.0, others (Texts job) asks)
    ];
    used = used;
    others = others (Texts job) asks;
    read = read_once (Texts job) asks;
  }
  keeps_jobs all come sessions used others (OverPorts C004) asks = record {
    done = λ done. elim (replies named given after words prints status asks come) [
      | inl is ↦ is
      | inr none ↦ absurd (never_done status none.1 done)
    ];
    refused = λ refused. elim (replies named given after words prints status asks come) [
      | inl is ↦ inl is
      | inr none ↦ inr (none.0, others (OverPorts C004) asks)
    ];
    used = used;
    others = others (OverPorts C004) asks;
    read = read_once (OverPorts C004) asks;
  }
  keeps_jobs all come sessions used others (OverPorts (Drive batch port port_b from wiring first goes_on workers)) asks =
      let job = OverPorts (Drive batch port port_b from wiring first goes_on workers) in
      let left = others job asks in
      record {
        done = λ done. elim (drove batch port port_b from wiring first goes_on workers asks come) [
          | inl c ↦ comes_as job (λ texts printed so. elim so [ inl is ↦ is | inr wrong ↦ absurd (never_done status wrong.1 done) ]) c
          | inr none ↦ absurd (never_done status none.1 done)
        ];
        refused = λ refused. elim (drove batch port port_b from wiring first goes_on workers asks come) [
          | inl c ↦ inl (comes_as job (λ texts printed so. elim so [ inl is ↦ inl is | inr wrong ↦ inr wrong.0 ]) c)
          | inr none ↦ inr (none.0.0, (none.0.1, left.0, left.1, left.2))
        ];
        used = used;
        others = left;
        read = read_once job asks;
      }
  keeps_jobs all come sessions used others (Sessions rack job) asks = record {
    done = λ done. elim (had_so sessions rack job asks) [
      | inl c ↦ comes_as (Sessions rack job) (λ texts printed so. elim so [ inl is ↦ is | inr wrong ↦ absurd (never_done status wrong.1 done) ]) c
      | inr none ↦ absurd (never_done status none.1 done)
    ];
    refused = λ refused. elim (had_so sessions rack job asks) [
      | inl c ↦ inl (comes_as (Sessions rack job) (λ texts printed so. elim so [ inl is ↦ inl is | inr wrong ↦ inr wrong.0 ]) c)
      | inr none ↦ inr none.0
    ];
    used = used;
    others = others (Sessions rack job) asks;
    read = read_once (Sessions rack job) asks;
  }

-- ---- all promises

either_used : (status : ℕ) → IsEither status → status ≢ MISUSED
either_used status (inl done) misused = omega (arith, done, misused)
either_used status (inr refused) misused = omega (arith, refused, misused)

pub keeps_promises : {C : Type 0} (e : JobEnd) (after : Ways) (received : C → Closed) (receipts : Receipts C) (comes : Text → Option (List ℕ))
    (had : Text → List ℕ) (endings : List (Ending (List ℕ))) (opened : Opened) → AreOpenedFor e.words (ends_of endings) opened
    → e.given.clients ≡ clients_by comes had
    → ((job : Job) (response : Response) → e.keeps job response → response.ports ≡ after)
    → ((job : Job) (response : Response) → e.keeps job response → KeepsSo e.named.holds received receipts (ends_of endings) no_write_failures job response)
    → (e.none → (receipts ≡ none_opened) × (after ≡ e.given.ports) × (ends_of endings ≡ [])) → EndsSo e
    → KeepsPromises e.named.leads (world_of (ended_run e) e.given.ports after (saved_by received receipts) (clients_of comes had endings) opened)
    (IsToldInPart e.streams.out_before e.streams.out_after)
keeps_promises e after received receipts comes had endings opened its known ports so none is =
    let idle = idle_so e.words (ends_of endings) opened its in
    let come = sessions_come e received receipts (ends_of endings) so (λ n. ((none n).0, (none n).2)) is in
    record {
      one = one_request e.words;
      ends = ends_well e is;
      jobs = λ job asks. keeps_jobs received receipts comes had endings opened idle e.named e.given known e.words after (Appends e.streams.out_before e.streams.out_after)
          e.code true (λ lost. lost ≡ no_write_failures) (λ lost same all. same) (opened_so e.words (ends_of endings) opened its)
          (text_ends e is) (jobs_come e after ports (λ n. (none n).1) is) come (λ misused. asks_nothing e is (record { job = job; is_quiet = asks.0 }) asks.1
          misused) (keeps_others received receipts comes had endings opened idle after e ports so none is) job asks;
      apart = λ job asks.
          let others = keeps_others received receipts comes had endings opened idle after e ports so none is job asks in
          elim (end_of e (record { job = job; is_quiet = asks.0 }) asks.1 is) [
            | inl done ↦ apart_by e.named e.given e.words (Appends e.streams.out_before e.streams.out_after) e.code received receipts comes
                had endings opened idle after job asks others done.0 done.1 (ports job done.0 done.2) no_write_failures (so job done.0 done.2)
                (λ gives told. inl (gave_up (ended_run e) done.0.end gives
                (subst (λ (x : List ℕ). Appends e.streams.out_before e.streams.out_after (x ++ done.0.end.text)) told done.3.text)))
            | inr gives_up ↦ inr (
              inl (inl gives_up.1.text),
              all_undone (W0 e.named e.given e.words (Appends e.streams.out_before e.streams.out_after) e.code received receipts comes had endings opened idle
                  after) job
                  (all_left received receipts comes had endings opened idle e.given.ports after (ended_run e) true (none gives_up.0)),
            )
          ];
      nothing = keeps_nothing received receipts comes had endings opened idle after e ports so none is (unread_so e.words (ends_of endings) opened its);
      fronts = λ unwritten. absurd (all_written e is unwritten);
    }

pub keeps_in_part : {C : Type 0} (words : List Text) (named : Named) (after : Ways) (given : Given) (out_before out_after : Option (List ℕ)) (code : ℕ)
    (received : C → Closed) (receipts : Receipts C) (comes : Text → Option (List ℕ)) (had : Text → List ℕ) (endings : List (Ending (List ℕ)))
    (opened : Opened) → AreOpenedFor words (ends_of endings) opened → given.clients ≡ clients_by comes had → code ≡ UNWRITTEN
    → IsCutFor named (leaving named.holds received receipts given.ports after (ends_of endings)) words given out_before out_after
    → KeepsPromises named.leads (world_of (the_run named given words (Appends out_before out_after) code) given.ports after (saved_by received receipts)
    (clients_of comes had endings) opened) (IsToldInPart out_before out_after)
keeps_in_part words named after given out_before out_after code received receipts comes had endings opened its known unwritten is =
    let idle = idle_so words (ends_of endings) opened its in
    let run = the_run named given words (Appends out_before out_after) code in
    let left = leaving named.holds received receipts given.ports after (ends_of endings) in
    let cut = cut_ends received receipts (ends_of endings) words named left given out_before out_after (λ job response k. (k.0.0, (k.0.1, k.2)))
    (λ none. (none.0, none.2)) (λ job response k. k.1) (λ none. none.1) is in
    record {
      one = one_request words;
      ends = omega (arith, unwritten);
      jobs = λ job asks. record {
        done = λ done. absurd (omega (arith, done, unwritten));
        refused = λ refused. absurd (omega (arith, refused, unwritten));
        used = λ misused. omega (arith, misused, unwritten);
        others = cut_others received receipts comes had endings opened idle after words named given out_before out_after run true is job asks.0 asks.1;
        read = (opened_so words (ends_of endings) opened its (record { job = job; is_quiet = asks.0 }) asks.1).1;
      };
      apart = λ job asks. apart_in_part named given words (Appends out_before out_after) code received receipts comes had endings opened idle after out_before
          out_after is unwritten job asks
          (cut_others received receipts comes had endings opened idle after words named given out_before out_after run true is job asks.0 asks.1);
      nothing = cut_nothing received receipts comes had endings opened idle after words named given out_before out_after run true is refl unwritten
          (unread_so words (ends_of endings) opened its);
      fronts = λ same. (
        cut.status,
        cut.either,
        keeps_jobs received receipts comes had endings opened idle named given known words after (IsToldInPart out_before out_after) cut.status false (λ lost. ⊤)
            (λ lost may all. absurd (cc)) (opened_so words (ends_of endings) opened its) cut.texts cut.jobs cut.sessions (either_used cut.status cut.either)
            (λ job asks. cut_others received receipts comes had endings opened idle after words named given out_before out_after
            (the_run named given words (IsToldInPart out_before out_after) cut.status) false is job asks.0 asks.1),
      );
    }
