-- The promises of `serve`, `host` and `talk`: what the files of a record and of an image hold, and
-- how the program ends.
use Rattle.std.proofs.Common.{◌≡◌, ◌≢◌, ◌≤◌, ◌∙◌, ◌++◌, ◌+◌, ◌||◌, ℕ, Bool, true, false, List, [], ◌∷◌, length, map, fold, Option, Some, None, inl, inr, ◌⊎◌, refl, sym, ap, ap₂, subst, append-nil}
use Rattle.std.specs.Prelude.{IfSome, codes, is_some, option_map, option_to_list}
use Rattle.std.specs.List.{AllByRecursion, flat_map, list_any, range_with_len}
use Rattle.std.proofs.lemmas.List.Elements.{recursion_from_All}
use Rattle.batch_book.proofs.OneReplay.{shape_stays}
use Rattle.batch_book.specs.History.{BookView, new_book_view}
use Rattle.batch_book.specs.Machine.{Machine, opened as begun}
use Rattle.batch_book.specs.Seats.{own}
use Rattle.batch_book.specs.Values.{greatest}
use Rattle.batch_book.specs.declared.entry.Entry.{Entry}
use Rattle.book_record.specs.Heads.{record_of, whole_record}
use Rattle.clap.specs.Words.{Text}
use Rattle.client_session.specs.Turns.{AreReadings, turn_text}
use Rattle.client_session.specs.declared.fault.ServeFault.{ServeFault}
use Rattle.command_words.specs.Jobs.{Files, MayHaveName, file, files_of, input_name, recorded_in}
use Rattle.command_words.specs.declared.jobs.Job.{Job}
use Rattle.command_words.specs.declared.jobs.Job.TheVariants.{Sessions}
use Rattle.command_words.specs.declared.jobs.SessionJob.{SessionJob}
use Rattle.command_words.specs.declared.jobs.SessionJob.TheVariants.{Host, Serve, Talk}
use Rattle.command_words.specs.declared.jobs.RecordFile.{RecordFile}
use Rattle.command_words.specs.declared.jobs.SharedRack.{SharedRack}
use Rattle.command_words.specs.declared.uses.Access.TheVariants.{Write}
use Rattle.command_words.specs.declared.uses.FileUse.{FileUse}
use Rattle.drive_answers.specs.Ways.{Ways}
use Rattle.exchange.proofs.EndStatuses.{gave_up, given_up}
use Rattle.exchange.proofs.PromisedSessions.{AreCallsOf, HasOwn, all_own, all_sessions, all_stand, are_calls, calls_of, in_order, one_session, seen_within, session_so}
use Rattle.exchange.specs.Keeping.{AreKeptBut}
use Rattle.exchange.specs.Promises.{HoldTexts, AreKept, AreToldKept, Calls, all_calls, Comes, GoesOnFrom, HasGivenUp, IsDone, Hosted, IsAsItWas, IsEmpty, IsHosted, IsKept, IsNoStart, IsRefusalLine}
use Rattle.exchange.specs.Opened.{Opened}
use Rattle.exchange.specs.Promises.{IsSessionOf, IsUndone, NoneServed, Run, Session, World, all_turns, clients_of, hosted_text, saved_by, name_at}
use Rattle.exchange.specs.Responses.{Given, IsResponseTo, Named, Response}
use Rattle.recorded_sessions.specs.Answers.{IsLiveAnswer, IsWrongStart, hosting, loses, talking}
use Rattle.recorded_sessions.specs.Keeping.{AreLiveKept, AreScriptsKept, AreWritten, HasAllTold}
use Rattle.recorded_sessions.specs.Records.{BeginsFor, BeginsWith, IsAsBegun, IsWrongFor}
use Rattle.module_memory.specs.Images.{image_of}
use Rattle.module_memory.specs.Store.{Store}
use Rattle.named_files.specs.Clients.{AreAdmitted, clients_by, ends_of}
use Rattle.named_files.specs.Contents.{AreContents, Holding}
use Rattle.named_files.specs.Notes.{GivesUp}
use Rattle.named_files.specs.Outputs.{HasNothingGone, IsFileWritten, IsUnput as IsPutNowhere, no_write_failures}
use Rattle.named_files.specs.Streams.{Closed}
use Rattle.named_files.specs.declared.write_failures.WriteFailures.{WriteFailures}
use Rattle.named_files.specs.declared.write_failures.WriteFailure.{WriteFailure}
use Rattle.named_files.specs.declared.outputs.Receipts.{Receipts}
use Rattle.plan_answers.specs.Refusals.{Printed}
use Rattle.plan_answers.specs.declared.limits.TheConstants.{REFUSED}
use Rattle.rack_answers.specs.Openings.{IsRackOf}
use Rattle.refusals.specs.Refusals.{refusal_line}
use Rattle.refusals.specs.declared.refusal.Refusal.{Refusal}
use Rattle.refusals.specs.declared.refusal.Refusal.TheVariants.{NoMemory}
use Rattle.session_answers.specs.Frames.{Transcript, end_line as line_of_end}
use Rattle.session_answers.specs.Histories.{HaveOneHistory, Part, status_at}
use Rattle.session_answers.specs.HostAnswers.{HostedSession, IsHostedSession, KnownClients, SessionEnd, ending_line, has_failed, hosted_heading, hosted_text as text_hosted, seen_end}
use Rattle.session_answers.specs.Serving.{HasItsScript, IsServeAnswer, refused, served}
use Rattle.session_answers.specs.Sessions.{Beginning, beginning}
use Rattle.session_answers.specs.declared.ended_session.Ending.{Ending}
use Rattle.session_answers.specs.declared.ended_session.Ending.TheVariants.{Served, Unopened}

-- ---- the files of a record and of an image

module _ {C : Type 0} (received : C → Closed) where
  kept_file : (whole : Bool) (name : Option Text) (bytes : List ℕ) (receipt : Option C) (lost : Option WriteFailure) → (whole ≡ true → lost ≡ None)
      → IsFileWritten received name bytes receipt lost → IsKept whole name bytes (option_map received receipt)
  kept_file whole None bytes receipt lost none is = ap (λ (r : Option C). option_map received r) is.0
  kept_file whole (Some name) bytes None lost none is = absurd is
  kept_file whole (Some name) bytes (Some receipt) None none is = (is.2, (bytes, [], sym (append-nil bytes), is.0), λ stands. is.0, λ all. is.1)
  kept_file whole (Some name) bytes (Some receipt) (Some lost) none is = (
    is.2,
    is.0,
    λ stands. absurd (let bad : true ≡ false = sym stands ∙ is.1 in cc),
    λ all. absurd (let bad : Some lost ≡ None = none all in cc),
  )

  -- the record of live sessions has all that was told
  all_told : (receipt : Option C) (names : List Text) (book : BookView) (calls : Calls) → AreCallsOf calls book
      → IfSome receipt (λ r. HasAllTold names book (received r).bytes)
      → IfSome (option_map received receipt)
      (λ file. (rest : List ℕ) × (file.bytes ≡ Some (record_of names calls.opening (calls.earlier ++ calls.standing) ++ rest)))
  all_told None names book calls are told = tt
  all_told (Some receipt) names book calls are told =
      let r = told.2 in (
        r.rest,
        told.1 ∙ ap (λ (x : List ℕ). Some x) r.has ∙ ap₂ (λ (o : Store) (es : List Entry). Some (record_of names o es ++ r.rest)) (sym are.opening)
            (sym are.stand),
      )

  put_nowhere : (image : Option C) → IsPutNowhere received image → IfSome (option_map received image) (λ (file : Closed). file.durable ≡ false)
  put_nowhere None is = tt
  put_nowhere (Some receipt) is = is

  whole_or_unput : (name : Option Text) (bytes : List ℕ) (recorded image : Option C) (lost : Option WriteFailure) → IsFileWritten received name bytes recorded
      lost → (is_some lost ≡ true → IsPutNowhere received image) → IsKept true name bytes (option_map received recorded) ⊎ IfSome (option_map received image)
      (λ (file : Closed). file.durable ≡ false)
  whole_or_unput name bytes recorded image None is nowhere = inl (kept_file true name bytes recorded None (λ whole. refl) is)
  whole_or_unput name bytes recorded image (Some lost) is nowhere = inr (put_nowhere image (nowhere refl))

-- what is left of the file for a record, or for an image, where no session began
is_empty : {C : Type 0} (received : C → Closed) (name : Option Text) (receipt : Option C) → HasNothingGone received name receipt
    → IsEmpty name (option_map received receipt)
is_empty received name None gone = tt
is_empty received None (Some receipt) gone = absurd gone
is_empty received (Some name) (Some receipt) gone = gone

as_it_was : {C : Type 0} (holds : Holding) (received : C → Closed) (record_out : Option RecordFile) (names : List Text) (receipt : Option C) (run : Run)
    → ((out : RecordFile) (text : List ℕ) → record_out ≡ Some out → holds out.name text → run.holds out.name text)
    → IsAsBegun holds received record_out names receipt → IsAsItWas run record_out names (option_map received receipt)
as_it_was holds received record_out names None run by_name is = tt
as_it_was holds received None names (Some receipt) run by_name is = absurd is
as_it_was holds received (Some out) names (Some receipt) run by_name (held, text, holds_so, so, begins) =
    (held, text, by_name out held refl holds_so, so, begins)

-- ---- what comes of a job that has sessions

-- the response to it was printed, or a front of it, and this is lost of what went to its files
pub record Came {C : Type 0} (named : Named) (given : Given) (received : C → Closed) (receipts : Receipts C) (ends : List SessionEnd) (run : Run) (job : Job)
    (lost : WriteFailures) : Type 0 where
  pub response : Response
  pub is : IsResponseTo named given job response
  pub kept : AreKeptBut named.holds received job response.left receipts lost
  pub ends_are : response.ends ≡ ends
  pub prints : run.prints (response.told ++ response.end.text)
  pub status : run.status ≡ response.end.status

-- there was no memory to read the arguments
pub record HasNone {C : Type 0} (receipts : Receipts C) (ends : List SessionEnd) (run : Run) : Type 0 where
  pub prints : run.prints (refusal_line NoMemory)
  pub status : run.status ≡ REFUSED
  pub recorded : receipts.recorded ≡ None
  pub image : receipts.image ≡ None
  pub none_ended : ends ≡ []

-- what they printed, or why none began; then the status is 1
abbrev pub HadOr : World → SharedRack → SessionJob → Files (List ℕ) → List ℕ → Type 0
HadOr w rack job texts printed = IsDone w (Sessions rack job) texts printed
    ⊎ ((IsRefusalLine (IsNoStart w rack job texts.image) printed × IsUndone w (Sessions rack job)) × (w.run.status ≡ REFUSED))

-- so it is, or there was no answer
abbrev pub Had : World → SharedRack → SessionJob → Type 0
Had w rack job = Comes w.run (Sessions rack job) (HadOr w rack job) ⊎ ((HasGivenUp w.run × IsUndone w (Sessions rack job)) × (w.run.status ≡ REFUSED))

-- ---- ends of sessions

same_line : (e : Ending (List ℕ)) → ending_line (seen_end Some e) ≡ ending_line e
same_line Unopened = refl
same_line (Served fault bytes) = refl

same_failure : (e : Ending (List ℕ)) → has_failed (seen_end Some e) ≡ has_failed e
same_failure Unopened = refl
same_failure (Served fault bytes) = refl

same_failures : (es : List (Ending (List ℕ))) → list_any has_failed (ends_of es) ≡ list_any has_failed es
same_failures [] = refl
same_failures (e ∷ es) = ap₂ ◌||◌ (same_failure e) (same_failures es)

pub none_ended : (es : List (Ending (List ℕ))) → ends_of es ≡ [] → es ≡ []
none_ended [] none = refl
none_ended (e ∷ es) none = absurd (cc)

-- where they ended, all clients of these names were admitted
all_admitted : (names : List Text) (es : List SessionEnd) (admitted : List Text) (vs : List HostedSession) → map (λ (v : HostedSession). v.end) vs ≡ es
    → map (λ (v : HostedSession). v.part.session) vs ≡ range_with_len 0 (length names) → AreAdmitted names es admitted → admitted ≡ names
all_admitted names (e ∷ es) admitted vs ended numbers is = is
all_admitted [] [] admitted vs ended numbers is = is
all_admitted (name ∷ names) [] admitted [] ended numbers is = absurd (cc)
all_admitted (name ∷ names) [] admitted (v ∷ vs) ended numbers is = absurd (cc)

first_end : (a b : SessionEnd) (more others : List SessionEnd) → a ∷ more ≡ b ∷ others → a ≡ b
first_end a b more others same = cc

other_ends : (a b : SessionEnd) (more others : List SessionEnd) → a ∷ more ≡ b ∷ others → more ≡ others
other_ends a b more others same = cc

-- ---- the file of a record

-- what is written isn't standard input
pub behind : (P : FileUse → Type 0) (front back : List FileUse) → AllByRecursion P (front ++ back) → AllByRecursion P back
behind P [] back all = all
behind P (x ∷ front) back all = behind P front back all.1

pub before : (P : FileUse → Type 0) (front back : List FileUse) → AllByRecursion P (front ++ back) → AllByRecursion P front
before P [] back all = tt
before P (x ∷ front) back all = (all.0, before P front back all.1)

pub kept_named : (recorded image : Option Text) (name : Text) → recorded ≡ Some name
    → AllByRecursion MayHaveName (map (file Write) (option_to_list recorded ++ option_to_list image)) → name ≢ input_name
kept_named None image name is all = absurd (cc)
kept_named (Some recorded) image name is all = λ same. all.0 tt ((let e : recorded ≡ name = cc in e) ∙ same)

module _ (comes : Text → Option (List ℕ)) (had : Text → List ℕ) (names : List Text) (endings : List (Ending (List ℕ))) (b : Beginning) (calls : Calls)
    (shape : b.shape ≡ calls.opening.shape) (recorded : b.loses ≡ calls.recorded) where
  abbrev Known : KnownClients
  Known = clients_by comes had names

  abbrev IsHostedAt : Hosted → Type 0
  IsHostedAt h = IsHosted calls (clients_of comes had endings) (name_at names h.its.number) h.its h.end

  record IsHostedOne (v : HostedSession) (e : Ending (List ℕ)) (h : Hosted) : Type 0 where
    number : h.its.number ≡ v.part.session
    end : h.end ≡ e
    own_are : own h.its.number calls.made ≡ v.part.asked
    seen : AreReadings b.seen v.part.seen (all_turns h.its)
    is : IsHostedAt h

  one_hosted : (part : Part) (end : SessionEnd) (e : Ending (List ℕ)) → end ≡ seen_end Some e → IsHostedSession b Known part end → HasOwn calls part
      → (h : Hosted) × IsHostedOne (record { part = part; end = end }) e h
  one_hosted part end Unopened is hosted own_is =
      let unopened = subst (λ (x : SessionEnd). IsHostedSession b Known part x) is hosted in (
        record { its = session_so part.session None [] [] [] []; end = Unopened },
        record { number = refl; end = refl; own_are = sym own_is.0; seen = record { low = tt; high = tt; rising = tt }; is = sym own_is.0 ∙ unopened.asked },
      )
  one_hosted part end (Served fault bytes) is hosted own_is =
      let w = subst (λ (x : SessionEnd). IsHostedSession b Known part x) is hosted in
      let one = one_session b calls (comes (name_at names part.session ++ codes ".in")) w.rest (record { part = part; told = w.told; fault = fault }) shape
      recorded w.session own_is in
      let at : name_at names part.session ≡ name_at names one.0.number = ap (name_at names) (sym one.1.number) in (
        record { its = one.0; end = Served fault bytes },
        record {
          number = one.1.number;
          end = refl;
          own_are = one.1.own_are;
          seen = one.1.seen;
          is = (
            subst (λ (n : Text). IsSessionOf calls (comes (n ++ codes ".in")) one.0) at one.1.is,
            one.1.fault,
            w.wrote ∙ ap₂ (λ (n : Text) (x : List ℕ). had (n ++ codes ".out") ++ x) at (sym one.1.told),
          );
        },
      )

  pub record AreHostedSo (vs : List HostedSession) (es : List (Ending (List ℕ))) (hs : List Hosted) : Type 0 where
    pub numbers : map (λ (h : Hosted). h.its.number) hs ≡ map (λ (v : HostedSession). v.part.session) vs
    pub ends : map (λ (h : Hosted). h.end) hs ≡ es
    pub each : AllByRecursion IsHostedAt hs
    pub text : flat_map (text_hosted Known) vs ≡ flat_map (hosted_text names) hs
    pub entries : (n : ℕ) → fold (λ a (s : Session). a + length (own s.number calls.made)) n (map (λ (h : Hosted). h.its) hs)
        ≡ fold (λ a (p : Part). a + length p.asked) n (map (λ (v : HostedSession). v.part) vs)
    pub seen : (most : ℕ) → AllByRecursion (λ (p : Part). p.seen ≤ most) (map (λ (v : HostedSession). v.part) vs)
        → AllByRecursion (λ (s : Session). AreReadings b.seen most (all_turns s)) (map (λ (h : Hosted). h.its) hs)

  pub all_hosted : (vs : List HostedSession) (es : List (Ending (List ℕ))) → map (λ (v : HostedSession). v.end) vs ≡ ends_of es
      → AllByRecursion (λ (v : HostedSession). IsHostedSession b Known v.part v.end) vs → AllByRecursion (HasOwn calls) (map (λ (v : HostedSession). v.part) vs)
      → (hs : List Hosted) × AreHostedSo vs es hs
  all_hosted [] [] same each owns = ([], record { numbers = refl; ends = refl; each = tt; text = refl; entries = λ n. refl; seen = λ most all. tt })
  all_hosted [] (e ∷ es) same each owns = absurd (cc)
  all_hosted (v ∷ vs) [] same each owns = absurd (cc)
  all_hosted (v ∷ vs) (e ∷ es) same each owns =
      let first = first_end v.end (seen_end Some e) (map (λ (u : HostedSession). u.end) vs) (ends_of es) same in
      let others = other_ends v.end (seen_end Some e) (map (λ (u : HostedSession). u.end) vs) (ends_of es) same in
      let one = one_hosted v.part v.end e first each.0 owns.0 in
      let more = all_hosted vs es others each.1 owns.1 in (
        one.0 ∷ more.0,
        record {
          numbers = ap₂ (λ (n : ℕ) (ns : List ℕ). n ∷ ns) one.1.number more.1.numbers;
          ends = ap₂ (λ (x : Ending (List ℕ)) (xs : List (Ending (List ℕ))). x ∷ xs) one.1.end more.1.ends;
          each = (one.1.is, more.1.each);
          text = ap₂ (λ (x y : List ℕ). x ++ y) (ap₂ (λ (n : ℕ) (l : List ℕ). hosted_heading Known n ++ l) (sym one.1.number)
              (ap (λ (x : SessionEnd). ending_line x) first ∙ same_line e ∙ ap (λ (x : Ending (List ℕ)). ending_line x) (sym one.1.end))) more.1.text;
          entries = λ n. ap (λ (xs : List Entry). fold (λ a (s : Session). a + length (own s.number calls.made)) (n + length xs)
              (map (λ (h : Hosted). h.its) more.0)) one.1.own_are ∙ more.1.entries (n + length v.part.asked);
          seen = λ most all. (seen_within (all_turns one.0.its) b.seen v.part.seen most all.0 one.1.seen, more.1.seen most all.1);
        },
      )

-- the same session with what it read, where that isn't known otherwise
as_came : (calls : Calls) (came : Option (List ℕ)) (s : Session) → IsSessionOf calls came s
    → IsSessionOf calls (Some (flat_map turn_text (all_turns s) ++ s.rest)) s
as_came calls came s is = record {
  untold = is.untold;
  unseen = is.unseen;
  read = refl;
  each = is.each;
  lines = is.lines;
  entries = is.entries;
  stand = is.stand;
  ends = is.ends;
}

-- ---- a job

module _ {C : Type 0} (received : C → Closed) (receipts : Receipts C) (lost : WriteFailures) (named : Named) (given : Given) (run : Run) (whole : Bool)
    (after : Ways) (comes : Text → Option (List ℕ)) (had : Text → List ℕ) (endings : List (Ending (List ℕ)))
    (opened : Opened) (idle : ends_of endings ≡ [] → opened.admitted ≡ [])
    (none_lost : whole ≡ true → lost ≡ no_write_failures) (rack : SharedRack) where
  abbrev The : World
  The = record {
    run = run;
    whole = whole;
    before = given.ports;
    after = after;
    kept = saved_by received receipts;
    clients = clients_of comes had endings;
    opened = opened;
  }

  none_served : ends_of endings ≡ [] → NoneServed The
  none_served none = (none_ended endings none, idle none)

  record_is : (names : List Text) (calls : Calls) (book : BookView) → AreCallsOf calls book → whole_record names book.opening book.history
      ≡ whole_record names calls.opening (all_calls calls)
  record_is names calls book are = ap₂ (whole_record names) (sym are.opening) (sym are.entries)

  are_kept : (names : List Text) (book : BookView) (calls : Calls) → AreCallsOf calls book → AreWritten received (recorded_in rack) rack.image_out names book
      receipts lost → AreKept The rack names calls
  are_kept names book calls are is = (
    kept_file received whole (recorded_in rack) _ receipts.recorded lost.recorded (λ all. ap (λ (l : WriteFailures). l.recorded) (none_lost all))
        (subst (λ (x : List ℕ). IsFileWritten received (recorded_in rack) x receipts.recorded lost.recorded) (record_is names calls book are) is.0),
    kept_file received whole rack.image_out _ receipts.image lost.image (λ all. ap (λ (l : WriteFailures). l.image) (none_lost all))
        (subst (λ (x : List ℕ). IsFileWritten received rack.image_out x receipts.image lost.image) (ap (λ (m : Machine). image_of m.store) (sym are.machine))
        is.1),
  )

  are_told : (names : List Text) (book : BookView) (calls : Calls) → AreCallsOf calls book → AreLiveKept named.holds received rack names (Some book) receipts
      lost → AreToldKept The rack names calls
  are_told names book calls are is = (
    are_kept names book calls are is.0,
    all_told received receipts.recorded names book calls are is.3,
    whole_or_unput received (recorded_in rack) _ receipts.recorded receipts.image lost.recorded
        (subst (λ (x : List ℕ). IsFileWritten received (recorded_in rack) x receipts.recorded lost.recorded) (record_is names calls book are) is.0.0) is.2,
  )

  -- no file was opened
  pub none_begun : (job : SessionJob) → HasNone receipts (ends_of endings) run → IsUndone The (Sessions rack job)
  none_begun (Serve scripts workers) none = (
    subst (λ (r : Option C). IsEmpty (recorded_in rack) (option_map received r)) (sym none.recorded) tt,
    subst (λ (r : Option C). IsEmpty rack.image_out (option_map received r)) (sym none.image) tt,
  )
  none_begun (Host names workers) none = (
    subst (λ (r : Option C). IsAsItWas run rack.record_out names (option_map received r)) (sym none.recorded) tt,
    subst (λ (r : Option C). IsEmpty rack.image_out (option_map received r)) (sym none.image) tt,
    none_served none.none_ended,
  )
  none_begun Talk none = (
    subst (λ (r : Option C). IsAsItWas run rack.record_out [] (option_map received r)) (sym none.recorded) tt,
    subst (λ (r : Option C). IsEmpty rack.image_out (option_map received r)) (sym none.image) tt,
    none_served none.none_ended,
  )

  -- there was no answer
  gave_up_so : (job : SessionJob) (response : Response) → response.told ≡ [] → GivesUp response.end
      → run.prints (response.told ++ response.end.text) → run.status ≡ response.end.status → IsUndone The (Sessions rack job) → Had The rack job
  gave_up_so job response none gives prints status unbegun =
      inr (
        (gave_up run response.end gives (subst (λ (x : List ℕ). run.prints (x ++ response.end.text)) none prints), unbegun),
        status ∙ given_up response.end gives,
      )

  -- ---- `serve`

  pub scripts_unbegun : (scripts : List Text) (workers : ℕ) → AreScriptsKept received (recorded_in rack) rack.image_out None receipts lost
      → IsUndone The (Sessions rack (Serve scripts workers))
  scripts_unbegun scripts workers gone = (is_empty received (recorded_in rack) receipts.recorded gone.0, is_empty received rack.image_out receipts.image gone.1)

  served_so : (scripts : List Text) (workers : ℕ) (texts : Files (List ℕ)) (printed : Printed) (left : Option BookView) → run.status ≡ printed.status
      → AreScriptsKept received (recorded_in rack) rack.image_out left receipts lost → IsServeAnswer rack.shape texts.image texts.scripts printed left
      → HadOr The rack (Serve scripts workers) texts printed.text
  served_so scripts workers texts printed left status kept (refused refusal wrong refuses none) =
      inr (
        (
          (refusal, wrong, refuses.1.line),
          scripts_unbegun scripts workers (subst (λ (l : Option BookView). AreScriptsKept received (recorded_in rack) rack.image_out l receipts lost) none
              kept),
        ),
        status ∙ refuses.1.status,
      )
  served_so scripts workers texts printed left status kept (served opening of_rack (sessions, of, book, is_left, few, closing)) =
      let one = closing.one in
      let b = beginning false (new_book_view opening) in
      let parts = map (λ (t : Transcript). t.part) sessions in
      let calls = calls_of false opening [] one.made one.standing book in
      let all = all_sessions b calls texts.scripts sessions refl refl (recursion_from_All (HasItsScript b texts.scripts) sessions of.each)
      (all_own false opening [] parts book one) in
      inl (record {
        calls = calls;
        sessions = all.0;
        of = of_rack;
        numbers = all.1.numbers ∙ of.numbers;
        each = all.1.each;
        order = in_order false opening [] parts book one all.0 (all.1.entries 0)
            (all.1.seen (greatest book.history) (recursion_from_All (λ (p : Part). p.seen ≤ greatest book.history) parts one.seen));
        no_earlier = refl;
        unrecorded = refl;
        whole = all_stand false opening [] parts book one refl;
        status = status ∙ closing.status ∙ ap status_at all.1.failed;
        prints = closing.prints ∙ all.1.text;
        kept = are_kept [] book calls (are_calls false opening [] parts book one)
            (subst (λ (l : Option BookView). AreScriptsKept received (recorded_in rack) rack.image_out l receipts lost) is_left kept);
      })

  pub scripts_come : (scripts : List Text) (workers : ℕ)
      → ((files : Files (List ℕ)) (rest : Option (List ℕ)) → AreContents named.holds given.input (files_of (Sessions rack (Serve scripts workers))) files rest
      → HoldTexts run.holds (files_of (Sessions rack (Serve scripts workers))) files)
      → Came named given received receipts (ends_of endings) run (Sessions rack (Serve scripts workers)) lost → Had The rack (Serve scripts workers)
  scripts_come scripts workers held c = by c.is
    where
      by : IsResponseTo named given (Sessions rack (Serve scripts workers)) c.response → Had The rack (Serve scripts workers)
      by (inl comes) =
          let is = comes.1 in
          inl (
            is.0,
            c.response.end.text,
            held is.0 is.1 is.2,
            subst (λ (x : List ℕ). run.prints (x ++ c.response.end.text)) is.3.1.0 c.prints,
            served_so scripts workers is.0 c.response.end c.response.left c.status c.kept is.3.1.1,
          )
      by (inr none) =
          gave_up_so (Serve scripts workers) c.response none.0 none.4 c.prints c.status
          (scripts_unbegun scripts workers (subst (λ (l : Option BookView). AreScriptsKept received (recorded_in rack) rack.image_out l receipts lost)
          none.3 c.kept))

  -- ---- live sessions

  module _ (by_name : (out : RecordFile) (text : List ℕ) → rack.record_out ≡ Some out → named.holds out.name text → run.holds out.name text) (names : List Text)
    where
      wrong_start : (bytes : Option (List ℕ)) (refusal : Refusal) → IsWrongStart named.holds rack names bytes refusal → IsWrongStart run.holds rack names bytes
          refusal
      wrong_start bytes refusal (inl wrong) = inl wrong
      wrong_start bytes refusal (inr (opening, of_rack, fault, wrong, is)) = inr (opening, of_rack, fault, for rack.record_out by_name wrong, is)
        where
          for : (record_out : Option RecordFile) → ((out : RecordFile) (text : List ℕ) → record_out ≡ Some out → named.holds out.name text
              → run.holds out.name text) → IsWrongFor named.holds record_out opening names fault → IsWrongFor run.holds record_out opening names fault
          for None by is = is
          for (Some out) by is = (is.0, is.1, by out is.1 refl is.2, is.3)

      pub live_unbegun : AreLiveKept named.holds received rack names None receipts lost → ends_of endings ≡ [] → IsAsItWas run rack.record_out names
          (option_map received receipts.recorded) × IsEmpty rack.image_out (option_map received receipts.image) × NoneServed The
      live_unbegun gone ends = (
        as_it_was named.holds received rack.record_out names receipts.recorded run by_name gone.0,
        is_empty received rack.image_out receipts.image gone.1,
        none_served ends,
      )

      begins_for : (record_out : Option RecordFile) (opening : Store) (es : List Entry)
          → ((out : RecordFile) (text : List ℕ) → record_out ≡ Some out → named.holds out.name text → run.holds out.name text)
          → BeginsFor named.holds record_out opening names es → BeginsFor run.holds record_out opening names es
      begins_for None opening es by is = is
      begins_for (Some out) opening es by (held, holds_so, begins) = (held, by out held refl holds_so, begins)

      -- how their calls go on from those of the record
      module _ (opening : Store) (was : BookView) (begins : BeginsWith named.holds rack.record_out opening names was) (parts : List Part) (book : BookView)
          (one : HaveOneHistory (loses rack) was.opening was.history parts book) where
        abbrev Theirs : Calls
        Theirs = calls_of (loses rack) was.opening was.history one.made one.standing book

        rack_of : (bytes : Option (List ℕ)) → IsRackOf rack.shape bytes opening → IsRackOf rack.shape bytes was.opening
        rack_of bytes of = subst (λ (o : Store). IsRackOf rack.shape bytes o) (sym begins.1.0) of

        same_shape : was.machine.store.shape ≡ was.opening.shape
        same_shape = shape_stays (begun was.opening) was.history was.machine begins.1.1

        goes_on : GoesOnFrom run rack.record_out names Theirs
        goes_on = (
          subst (λ (o : Store). BeginsFor run.holds rack.record_out o names was.history) (sym begins.1.0)
              (begins_for rack.record_out opening was.history by_name begins.0),
          λ none. let lost_none_is : loses rack ≡ false = ap (λ (o : Option RecordFile). is_some o)
              none in (lost_none_is, all_stand (loses rack) was.opening was.history parts book one lost_none_is),
        )

  -- ---- `host`

  module _ (by_name : (out : RecordFile) (text : List ℕ) → rack.record_out ≡ Some out → named.holds out.name text → run.holds out.name text) (names : List Text)
      (workers : ℕ) (admits : AreAdmitted names (ends_of endings) opened.admitted) where
    hosted_so : (texts : Files (List ℕ)) (ends : List SessionEnd) (printed : Printed) (left : Option BookView) → ends ≡ ends_of endings → run.status
        ≡ printed.status → AreLiveKept named.holds received rack names left receipts lost
        → IsLiveAnswer named.holds rack names texts.image (hosting rack (clients_by comes had names) ends printed) printed left
        → HadOr The rack (Host names workers) texts printed.text
    hosted_so texts ends printed None same status kept (unserved, (refusal, refuses, inl wrong)) =
        inr (
          ((refusal, inl (wrong_start by_name names texts.image refusal wrong), refuses.1.line), live_unbegun by_name names kept (sym same ∙ unserved)),
          status ∙ refuses.1.status,
        )
    hosted_so texts ends printed None same status kept (unserved, (refusal, refuses, inr threads)) =
        inr (((refusal, inr threads.2, refuses.1.line), live_unbegun by_name names kept (sym same ∙ unserved)), status ∙ refuses.1.status)
    hosted_so texts ends printed (Some book) same status kept (opening, of_rack, was, begins, (sessions, ended, of, closing)) =
        let one = closing.one in
        let b = beginning (loses rack) was in
        let parts = map (λ (v : HostedSession). v.part) sessions in
        let calls = calls_of (loses rack) was.opening was.history one.made one.standing book in
        let all = all_hosted comes had names endings b calls (same_shape by_name names opening was begins parts book one) refl sessions endings (ended ∙ same)
        (recursion_from_All (λ (v : HostedSession). IsHostedSession b (clients_by comes had names) v.part v.end) sessions of.each)
        (all_own (loses rack) was.opening was.history parts book one) in
        inl (record {
          calls = calls;
          sessions = all.0;
          of = rack_of by_name names opening was begins parts book one texts.image of_rack;
          goes_on = goes_on by_name names opening was begins parts book one;
          numbers = all.1.numbers ∙ of.numbers;
          ends = all.1.ends;
          each = all.1.each;
          order = in_order (loses rack) was.opening was.history parts book one (map (λ (h : Hosted). h.its) all.0) (all.1.entries 0)
              (all.1.seen (greatest book.history) (recursion_from_All (λ (p : Part). p.seen ≤ greatest book.history) parts one.seen));
          once = all_admitted names (ends_of endings) opened.admitted sessions (ended ∙ same) of.numbers admits;
          status = status ∙ closing.status ∙ ap (λ (es : List SessionEnd). status_at (list_any has_failed es)) same ∙ ap status_at (same_failures endings);
          prints = closing.prints ∙ all.1.text;
          kept = are_told names book calls (are_calls (loses rack) was.opening was.history parts book one) kept;
        })

    pub clients_come : given.clients names ≡ clients_by comes had names
        → ((files : Files (List ℕ)) (rest : Option (List ℕ)) → AreContents named.holds given.input (files_of (Sessions rack (Host names workers))) files rest
        → HoldTexts run.holds (files_of (Sessions rack (Host names workers))) files)
        → Came named given received receipts (ends_of endings) run (Sessions rack (Host names workers)) lost → Had The rack (Host names workers)
    clients_come known held c = by c.is
      where
        by : IsResponseTo named given (Sessions rack (Host names workers)) c.response → Had The rack (Host names workers)
        by (inl comes) =
            let is = comes.1 in
            inl (
              is.0,
              c.response.end.text,
              held is.0 is.1 is.2,
              subst (λ (x : List ℕ). run.prints (x ++ c.response.end.text)) is.3.1.0 c.prints,
              hosted_so is.0 c.response.ends c.response.end c.response.left c.ends_are c.status c.kept
                  (subst (λ (k : KnownClients). IsLiveAnswer named.holds rack names is.0.image (hosting rack k c.response.ends c.response.end) c.response.end
                  c.response.left) known is.3.1.1),
            )
        by (inr none) =
            gave_up_so (Host names workers) c.response none.0 none.4 c.prints c.status
            (live_unbegun by_name names (subst (λ (l : Option BookView). AreLiveKept named.holds received rack names l receipts lost) none.3 c.kept)
            (sym c.ends_are ∙ none.2))

  -- ---- `talk`

  module _ (by_name : (out : RecordFile) (text : List ℕ) → rack.record_out ≡ Some out → named.holds out.name text → run.holds out.name text) where
    talked_so : (texts : Files (List ℕ)) (before after : Option (List ℕ)) (told : List ℕ) (printed : Printed) (left : Option BookView)
        → ((came : List ℕ) → IfSome before (λ text. text ≡ came) → run.holds input_name came)
        → ends_of endings ≡ [] → run.status ≡ printed.status → AreLiveKept named.holds received rack [] left receipts lost
        → IsLiveAnswer named.holds rack [] texts.image (talking rack before after told printed) printed left → HadOr The rack Talk texts (told ++ printed.text)
    talked_so texts before after told printed None input ends status kept (untouched, (refusal, refuses, inr none)) = absurd none.2
    talked_so texts before after told printed None input ends status kept (untouched, (refusal, refuses, inl wrong)) =
        inr (
          (
            (refusal, wrong_start by_name [] texts.image refusal wrong, ap (λ (x : List ℕ). x ++ printed.text) untouched.1 ∙ refuses.1.line),
            live_unbegun by_name [] kept ends,
          ),
          status ∙ refuses.1.status,
        )
    talked_so texts before after told printed (Some book) input ends status kept (opening, of_rack, was, begins, (t, first, told_is, session, closing)) =
        let one = closing.one in
        let b = beginning (loses rack) was in
        let parts = t.part ∷ [] in
        let calls = calls_of (loses rack) was.opening was.history one.made one.standing book in
        let s = one_session b calls before after t (same_shape by_name [] opening was begins parts book one) refl session
        (all_own (loses rack) was.opening was.history parts book one).0 in
        inl (record {
          calls = calls;
          its = s.0;
          came = flat_map turn_text (all_turns s.0) ++ s.0.rest;
          of = rack_of by_name [] opening was begins parts book one texts.image of_rack;
          goes_on = goes_on by_name [] opening was begins parts book one;
          held = input (flat_map turn_text (all_turns s.0) ++ s.0.rest) s.1.is.read;
          number = s.1.number ∙ first;
          is = as_came calls before s.0 s.1.is;
          order = in_order (loses rack) was.opening was.history parts book one (s.0 ∷ []) (ap (λ (es : List Entry). 0 + length es) s.1.own_are) (
            seen_within (all_turns s.0) b.seen t.part.seen (greatest book.history) (recursion_from_All (λ (p : Part). p.seen ≤ greatest book.history) parts
                one.seen).0 s.1.seen,
            tt,
          );
          status = status ∙ closing.status ∙ ap (λ (o : Option ServeFault). status_at (is_some o)) (sym s.1.fault);
          prints = ap₂ (λ (x y : List ℕ). x ++ y) (sym told_is ∙ sym s.1.told) (closing.prints ∙ ap (λ (o : Option ServeFault). line_of_end o) (sym s.1.fault));
          kept = are_told [] book calls (are_calls (loses rack) was.opening was.history parts book one) kept;
        })

    pub talk_comes : ((before : Option (List ℕ)) (files : Files (List ℕ)) → AreContents named.holds given.input (files_of (Sessions rack Talk)) files before
        → (came : List ℕ) → IfSome before (λ text. text ≡ came) → run.holds input_name came)
        → ((files : Files (List ℕ)) (rest : Option (List ℕ)) → AreContents named.holds given.input (files_of (Sessions rack Talk)) files rest
        → HoldTexts run.holds (files_of (Sessions rack Talk)) files)
        → Came named given received receipts (ends_of endings) run (Sessions rack Talk) lost → Had The rack Talk
    talk_comes input held c = by c.is
      where
        by : IsResponseTo named given (Sessions rack Talk) c.response → Had The rack Talk
        by (inl comes) =
            let is = comes.1 in
            inl (
              is.0,
              c.response.told ++ c.response.end.text,
              held is.0 is.1 is.2,
              c.prints,
              talked_so is.0 is.1 is.3.1.0 c.response.told c.response.end c.response.left (input is.1 is.0 is.2) (sym c.ends_are ∙ is.3.1.2) c.status c.kept
                  is.3.1.1,
            )
        by (inr none) =
            gave_up_so Talk c.response none.0 none.4 c.prints c.status
            (live_unbegun by_name [] (subst (λ (l : Option BookView). AreLiveKept named.holds received rack [] l receipts lost) none.3 c.kept)
            (sym c.ends_are ∙ none.2))
