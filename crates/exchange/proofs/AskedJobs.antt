-- How a job ends that the arguments ask for.
use Rattle.std.proofs.Common.{◌≡◌, ◌≤◌, ◌∙◌, ◌++◌, ℕ, zero, suc, Bool, List, [], Option, inl, inr, ◌⊎◌, refl, sym, subst, ap, Result, Ok, Err, arith}
use Rattle.std.specs.Prelude.{IfOk, ⊤}
use Rattle.std.specs.Io.KnownBytes.{Appends}
use Rattle.clap.specs.Words.{Text}
use Rattle.command_words.specs.Jobs.{AskFor, Files, text_files}
use Rattle.command_words.specs.declared.jobs.ArgumentsFault.TheVariants.{Clap, NoMemory}
use Rattle.command_words.specs.declared.jobs.Job.{Job}
use Rattle.command_words.specs.declared.jobs.Job.TheVariants.{Sessions, Texts}
use Rattle.command_words.specs.declared.jobs.SessionJob.{SessionJob}
use Rattle.command_words.specs.declared.jobs.SharedRack.{SharedRack}
use Rattle.command_words.specs.declared.jobs.TextJob.{TextJob}
use Rattle.command_words.specs.declared.jobs.Request.{Request}
use Rattle.command_words.proofs.OneRequest.{no_fault, one_request}
use Rattle.drive_answers.specs.Ways.{Ways}
use Rattle.exchange.proofs.EndStatuses.{IsEither, gave_up, given_up, of_response}
use Rattle.exchange.proofs.HeldFiles.{held_files}
use Rattle.exchange.proofs.PromisedCalls.{Came, HasNone}
use Rattle.exchange.specs.Ends.{IsCutFor, IsDone, IsDoneInPart, IsEndForArguments, IsPrinted, Keeping, Leaving, Streams, printed_of}
use Rattle.exchange.specs.Keeping.{AreKeptBut}
use Rattle.exchange.specs.Promises.{HoldTexts, AsksFor, HasGivenUp, Run, run_of}
use Rattle.exchange.specs.Responses.{Given, IsJobAnswer, IsJobCut, IsResponseTo, IsTextAnswer, IsToldCut, Named, Response}
use Rattle.exchange.specs.declared.limits.TheConstants.{MISUSED, UNWRITTEN}
use Rattle.named_files.specs.Contents.{Holding}
use Rattle.named_files.specs.Notes.{IsToldInPart, unanswered}
use Rattle.named_files.specs.Outputs.{no_write_failures, none_opened}
use Rattle.named_files.specs.Streams.{Closed}
use Rattle.named_files.specs.declared.write_failures.WriteFailures.{WriteFailures}
use Rattle.named_files.specs.declared.outputs.Receipts.{Receipts}
use Rattle.session_answers.specs.HostAnswers.{SessionEnd}
use Rattle.refusals.specs.declared.refusal.Refusal.TheVariants as refusal
use Rattle.plan_answers.specs.Refusals.{Printed}
use Rattle.plan_answers.specs.declared.limits.TheConstants.{REFUSED}

-- ---- what the clause of `respond` says

-- a run where this is given, with these arguments, and with this status
abbrev pub the_run : Named → Given → List Text → (List ℕ → Type 0) → ℕ → Run
the_run named given words prints status = run_of named.holds given.input prints words status

-- what a run ended with, and what was given to it
pub record JobEnd : Type 1 where
  pub words : List Text
  pub named : Named
  pub keeps : Keeping
  pub none : Type 0
  pub given : Given
  pub streams : Streams
  pub code : ℕ

abbrev pub ended_run : JobEnd → Run
ended_run e = the_run e.named e.given e.words (Appends e.streams.out_before e.streams.out_after) e.code

abbrev pub EndsSo : JobEnd → Type 0
EndsSo e = IsEndForArguments e.named e.keeps e.none e.words e.given e.streams e.code

-- what is asked for was done, or there was no memory to read the arguments
pub end_of : (e : JobEnd) (request : Request) → AskFor e.words request → EndsSo e
    → IsDone e.named e.keeps e.given request e.streams e.code ⊎ (e.none × IsPrinted e.streams.out_before e.streams.out_after (unanswered refusal.NoMemory) e.code)
end_of e request asks (Ok other, has, wrong, ends) =
    inl (subst (λ (r : Request). IsDone e.named e.keeps e.given r e.streams e.code) (one_request e.words other request has asks) ends)
end_of e request asks (Err NoMemory, has, wrong, ends) = inr (ends.0, ends.1.0)
end_of e request asks (Err (Clap error), has, wrong, ends) = absurd (no_fault e.words request error asks wrong)

-- ---- jobs whose files are all that they ask for

-- such an answer was printed of what the files hold, under its status
pub record IsAnswered (run : Run) (job : TextJob) : Type 0 where
  pub files : Files (List ℕ)
  pub printed : Printed
  pub held : HoldTexts run.holds (text_files job) files
  pub answer : IsTextAnswer job files printed
  pub prints : run.prints printed.text
  pub status : run.status ≡ printed.status

-- there was none
abbrev pub IsGivenUp : Run → Type 0
IsGivenUp run = HasGivenUp run × (run.status ≡ REFUSED)

answered : (e : JobEnd) (job : TextJob) (quiet : Bool) (response : Response) → AskFor e.words (record { job = Texts job; is_quiet = quiet })
    → IsJobAnswer e.named.holds e.given (Texts job) response → IsPrinted e.streams.out_before e.streams.out_after (printed_of response) e.code
    → IsAnswered (ended_run e) job
answered e job quiet response asks is printed = record {
  files = is.0;
  printed = response.end;
  held = held_files e.words (record { job = Texts job; is_quiet = quiet }) e.named.holds e.given.input is.0 is.1 asks is.2;
  answer = is.3.4;
  prints = subst (λ (told : List ℕ). Appends e.streams.out_before e.streams.out_after (told ++ response.end.text)) is.3.3 printed.text;
  status = printed.status;
}

done_text : (e : JobEnd) (job : TextJob) (quiet : Bool) → AskFor e.words (record { job = Texts job; is_quiet = quiet })
    → IsDone e.named e.keeps e.given (record { job = Texts job; is_quiet = quiet }) e.streams e.code
    → IsAnswered (ended_run e) job ⊎ IsGivenUp (ended_run e)
done_text e job quiet asks (response, inl comes, kept, printed, noted) = inl (answered e job quiet response asks comes.1 printed)
done_text e job quiet asks (response, inr none, kept, printed, noted) =
    let text = subst (λ (told : List ℕ). Appends e.streams.out_before e.streams.out_after (told ++ response.end.text)) none.0 printed.text in
    inr (gave_up (ended_run e) response.end none.4 text, printed.status ∙ given_up response.end none.4)

-- whatever job is asked for that needs but texts, it was answered, or there was no answer
abbrev pub Answers : Run → Type 0
Answers run = (job : TextJob) → AsksFor run (Texts job) → IsAnswered run job ⊎ IsGivenUp run

pub text_ends : (e : JobEnd) → EndsSo e → Answers (ended_run e)
text_ends e ends job asks = elim (end_of e (record { job = Texts job; is_quiet = asks.0 }) asks.1 ends) [
  | inl is ↦ done_text e job asks.0 asks.1 is
  | inr gives_up ↦ inr (inl gives_up.1.text, gives_up.1.status)
]

-- ---- jobs that have sessions

-- what belongs to their files went there, but for this, which is lost
abbrev pub KeepsSo : {C : Type 0} → Holding → (C → Closed) → Receipts C → List SessionEnd → WriteFailures → Job → Response → Type 0
KeepsSo holds received receipts ends lost job response = AreKeptBut holds received job response.left receipts lost × (response.ends ≡ ends)

-- what comes of such a job that is asked for, of which this may be lost
abbrev pub SessionsCome : {C : Type 0} → Named → Given → (C → Closed) → Receipts C → List SessionEnd → (WriteFailures → Type 0) → Run → Type 0
SessionsCome named given received receipts ends may run =
    (rack : SharedRack) (job : SessionJob) → AsksFor run (Sessions rack job)
    → ((lost : WriteFailures) × may lost × Came named given received receipts ends run (Sessions rack job) lost) ⊎ HasNone receipts ends run

pub sessions_come : {C : Type 0} (e : JobEnd) (received : C → Closed) (receipts : Receipts C) (ends : List SessionEnd)
    → ((job : Job) (response : Response) → e.keeps job response → KeepsSo e.named.holds received receipts ends no_write_failures job response)
    → (e.none → (receipts ≡ none_opened) × (ends ≡ []))
    → EndsSo e → SessionsCome e.named e.given received receipts ends (λ lost. lost ≡ no_write_failures) (ended_run e)
sessions_come {C} e received receipts ends so none_so is rack job asks = elim (end_of e (record { job = Sessions rack job; is_quiet = asks.0 }) asks.1 is) [
  | inl done ↦ inl (
    no_write_failures,
    refl,
    record {
      response = done.0;
      is = done.1;
      kept = (so (Sessions rack job) done.0 done.2).0;
      ends_are =
          (so (Sessions rack job) done.0 done.2).1;
      prints = done.3.text;
      status = done.3.status;
    },
  )
  | inr gives_up ↦
      inr (record {
        prints = gives_up.1.text;
        status = gives_up.1.status;
        recorded = ap (λ (r : Receipts C). r.recorded) (none_so gives_up.0).0;
        image =
            ap (λ (r : Receipts C). r.image) (none_so gives_up.0).0;
        none_ended = (none_so gives_up.0).1;
      })
]

-- ---- jobs that tell something before their answer

-- the response to a job was printed, or a front of it, and ports were left so
pub record Responded (named : Named) (given : Given) (ports : Ways) (run : Run) (job : Job) : Type 0 where
  pub response : Response
  pub is : IsResponseTo named given job response
  pub ports_are : response.ports ≡ ports
  pub prints : run.prints (response.told ++ response.end.text)
  pub status : run.status ≡ response.end.status

-- not all that it tells before could be written
pub record ToldInPart (named : Named) (given : Given) (ports : Ways) (run : Run) (job : Job) : Type 0 where
  pub told : List ℕ
  pub ends : List SessionEnd
  pub cut : IsJobCut named given job ports ends told
  pub prints : (missing : List ℕ) → run.prints (told ++ missing)
  pub status : run.status ≡ REFUSED

-- there was no memory to read the arguments
pub record NoneRead (given : Given) (ports : Ways) (run : Run) : Type 0 where
  pub prints : run.prints (unanswered refusal.NoMemory).text
  pub status : run.status ≡ REFUSED
  pub ports_are : ports ≡ given.ports

abbrev pub JobComes : Named → Given → Ways → Run → Job → Type 0
JobComes named given ports run job = Responded named given ports run job ⊎ (ToldInPart named given ports run job ⊎ NoneRead given ports run)

abbrev pub JobsCome : Named → Given → Ways → Run → Type 0
JobsCome named given ports run = (request : Request) → AskFor run.words request → JobComes named given ports run request.job

pub jobs_come : (e : JobEnd) (after : Ways) → ((job : Job) (response : Response) → e.keeps job response → response.ports ≡ after)
    → (e.none → after ≡ e.given.ports) → EndsSo e → JobsCome e.named e.given after (ended_run e)
jobs_come e after same none_so is request asks = elim (end_of e request asks is) [
  | inl done ↦ inl (record { response = done.0; is = done.1; ports_are = same request.job done.0 done.2; prints = done.3.text; status = done.3.status })
  | inr gives_up ↦ inr (inr (record { prints = gives_up.1.text; status = gives_up.1.status; ports_are = none_so gives_up.0 }))
]

-- ---- where the arguments ask for nothing

pub asks_nothing : (e : JobEnd) → EndsSo e → (request : Request) → AskFor e.words request → e.code ≡ MISUSED → ⊥
asks_nothing e is request asks misused = elim (end_of e request asks is) [
  | inl done ↦ elim (of_response e.named e.given request.job done.0 done.1) [
    | inl well ↦ let status = done.3.status in omega (arith, well, status, misused)
    | inr one ↦ let status = done.3.status in omega (arith, one, status, misused)
  ]
  | inr gives_up ↦ let status = gives_up.1.status in omega (arith, status, misused)
]

-- ---- where not all could be written

module _ {C : Type 0} (received : C → Closed) (receipts : Receipts C) (ends : List SessionEnd) (words : List Text) (named : Named) (left : Leaving)
    (given : Given) (before after : Option (List ℕ))
    (so : (job : Job) (response : Response) → left.keeps job response → (lost : WriteFailures) × KeepsSo named.holds received receipts ends lost job response)
    (none_so : left.none → (receipts ≡ none_opened) × (ends ≡ []))
    (ports_so : (job : Job) (response : Response) → left.keeps job response → response.ports ≡ left.ports) (none_ports : left.none → left.ports ≡ given.ports)
  where
    abbrev Front : ℕ → Run
    Front status = the_run named given words (IsToldInPart before after) status

    -- what is so of a request where it is that of the arguments
    record CutSo (request : Request) : Type 0 where
      status : ℕ
      either : IsEither status
      texts : (job : TextJob) → request.job ≡ Texts job → AskFor words (record { job = Texts job; is_quiet = request.is_quiet }) → IsAnswered (Front status) job
          ⊎ IsGivenUp (Front status)
      sessions : (rack : SharedRack) (job : SessionJob) → request.job ≡ Sessions rack job → (lost : WriteFailures) × ⊤ × Came named given received receipts ends
          (Front status) request.job lost
      comes : JobComes named given left.ports (Front status) request.job

    in_part : (request : Request) → IsDoneInPart named left given request before after → CutSo request
    in_part request (inl (response, inl comes, keeping, part)) = record {
      status = response.end.status;
      either = of_response named given request.job response (inl comes);
      texts = λ job same asks.
          let is = subst (λ (j : Job). IsJobAnswer named.holds given j response) same comes.1 in
          inl (record {
            files = is.0;
            printed = response.end;
            held = held_files words (record { job = Texts job; is_quiet = request.is_quiet }) named.holds given.input is.0 is.1 asks is.2;
            answer = is.3.4;
            prints = subst (λ (told : List ℕ). IsToldInPart before after (told ++ response.end.text)) is.3.3 part;
            status = refl;
          });
      sessions = λ rack job same. let kept =
          so request.job response keeping in (
            kept.0,
            tt,
            record {
              response = response;
              is = inl comes;
              kept = kept.1.0;
              ends_are = kept.1.1;
              prints =
                  part;
              status = refl;
            },
          );
      comes = inl (record { response = response; is = inl comes; ports_are = ports_so request.job response keeping; prints = part; status = refl });
    }
    in_part request (inl (response, inr none, keeping, part)) = record {
      status = response.end.status;
      either = of_response named given request.job response (inr none);
      texts = λ job same asks.
          inr (
            gave_up (Front response.end.status) response.end none.4
                (subst (λ (told : List ℕ). IsToldInPart before after (told ++ response.end.text)) none.0 part),
            given_up response.end none.4,
          );
      sessions = λ rack job same. let kept =
          so request.job response keeping in (
            kept.0,
            tt,
            record {
              response = response;
              is = inr none;
              kept = kept.1.0;
              ends_are = kept.1.1;
              prints =
                  part;
              status = refl;
            },
          );
      comes = inl (record { response = response; is = inr none; ports_are = ports_so request.job response keeping; prints = part; status = refl });
    }
    in_part request (inr (told, cut, keeping, part)) = record {
      status = REFUSED;
      either = inr refl;
      texts = λ job same asks. absurd (subst (λ (j : Job). IsToldCut j cut.1 cut.2 given.ports left.ports told) same cut.4);
      sessions = λ rack job same. absurd (subst (λ (j : Job). IsToldCut j cut.1 cut.2 given.ports left.ports told) same cut.4);
      comes = inr (inl (record { told = told; ends = left.ends; cut = cut; prints = λ missing. (told, missing, refl, part); status = refl }));
    }

    -- what a front was printed of
    pub record IsCutSo : Type 0 where
      pub status : ℕ
      pub either : IsEither status
      pub texts : Answers (Front status)
      pub sessions : SessionsCome named given received receipts ends (λ lost. ⊤) (Front status)
      pub jobs : JobsCome named given left.ports (Front status)

    pub cut_ends : IsCutFor named left words given before after → IsCutSo
    cut_ends (Ok other, has, wrong, done) =
        let part = in_part other done in
        record {
          status = part.status;
          either = part.either;
          texts = λ job asks.
              let same : other ≡ record { job = Texts job; is_quiet = asks.0 } = one_request words other (record { job = Texts job; is_quiet = asks.0 }) has
              asks.1 in
              part.texts job (ap (λ (r : Request). r.job) same) (subst (λ (r : Request). AskFor words (record { job = Texts job; is_quiet = r.is_quiet }))
              (sym same) asks.1);
          sessions = λ rack job asks.
              let same : other.job ≡ Sessions rack job =
              ap (λ (r : Request). r.job) (one_request words other (record { job = Sessions rack job; is_quiet = asks.0 }) has asks.1) in
              inl (subst (λ (j : Job). (lost : WriteFailures) × ⊤ × Came named given received receipts ends (Front part.status) j lost) same
              (part.sessions rack job same));
          jobs = λ request asks. subst (λ (r : Request). JobComes named given left.ports (Front part.status) r.job) (one_request words other request has asks)
              part.comes;
        }
    cut_ends (Err NoMemory, has, wrong, none) = record {
      status = REFUSED;
      either = inr refl;
      texts = λ job asks. inr (inl none.1, refl);
      sessions = λ rack job asks. inr (record {
        prints = none.1;
        status = refl;
        recorded = ap (λ (r : Receipts C). r.recorded) (none_so none.0).0;
        image =
            ap (λ (r : Receipts C). r.image) (none_so none.0).0;
        none_ended = (none_so none.0).1;
      });
      jobs = λ request asks. inr (inr (record { prints = none.1; status = refl; ports_are = none_ports none.0 }));
    }
    cut_ends (Err (Clap error), has, wrong, none) = record {
      status = REFUSED;
      either = inr refl;
      texts = λ job asks. absurd (no_fault words (record { job = Texts job; is_quiet = asks.0 }) error asks.1 wrong);
      sessions = λ rack job asks. absurd (no_fault words (record { job = Sessions rack job; is_quiet = asks.0 }) error asks.1 wrong);
      jobs = λ request asks. absurd (no_fault words request error asks wrong);
    }

-- ---- a promise about a run

pub kept : {X E : Type 0} (B C P : X → Type 0) (r : Result X E) (words : X → List Text) (named : Named) (keeps : Keeping) (none : Type 0) (given : Given)
    (streams : Streams) (code : ℕ)
    → ((w : X) → EndsSo (record { words = words w; named = named; keeps = keeps; none = none; given = given; streams = streams; code = code }) → B w → P w)
    → ((w : X) → code ≡ UNWRITTEN → C w → B w → P w)
    → IfOk r (λ w. ((code ≡ UNWRITTEN) × C w) ⊎ IsEndForArguments named keeps none (words w) given streams code) → IfOk r B → IfOk r P
kept B C P (Err error) words named keeps none given streams code so unwritten is beside = tt
kept B C P (Ok w) words named keeps none given streams code so unwritten (inl cut) beside = unwritten w cut.0 cut.1 beside
kept B C P (Ok w) words named keeps none given streams code so unwritten (inr ends) beside = so w ends beside

-- then all was written, and the status is that of an end
below : (e : JobEnd) → EndsSo e → UNWRITTEN ≤ e.code → ⊥
below e (Ok request, has, wrong, done) most = elim (of_response e.named e.given request.job done.0 done.1) [
  | inl well ↦ let status = done.3.status in omega (arith, well, status, most)
  | inr one ↦ let status = done.3.status in omega (arith, one, status, most)
]
below e (Err NoMemory, has, wrong, none) most = let status = none.1.0.status in omega (arith, status, most)
below e (Err (Clap error), has, wrong, none) most =
    let misused = none.1.1 (λ help. let done = (none.1.0 help).0 in omega (arith, done, most)) in
    let status = misused.0 in omega (arith, status, most)

pub all_written : (e : JobEnd) → EndsSo e → e.code ≡ UNWRITTEN → ⊥
all_written e is unwritten = below e is (omega (arith, unwritten))

bounded : (code : ℕ) → (UNWRITTEN ≤ code → ⊥) → code ≤ UNWRITTEN
bounded zero high = omega arith
bounded (suc zero) high = omega arith
bounded (suc (suc zero)) high = omega arith
bounded (suc (suc (suc n))) high = absurd (high (omega arith))

pub ends_well : (e : JobEnd) → EndsSo e → e.code ≤ UNWRITTEN
ends_well e is = bounded e.code (below e is)
