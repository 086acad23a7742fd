-- What comes of a job.
use Rattle.std.proofs.Common.{◌≡◌, List, [], ℕ, Option, None, Result, Ok, Err, IfOk, IfErr, IsOk, OnErr, OnOk, sym, subst, refl}
use Rattle.std.specs.Io.KnownBytes.{Appends}
use Rattle.std.proofs.KnownBytes.{Appends-nil}
use Rattle.plan_answers.specs.Refusals.{Printed}
use Rattle.batch_book.specs.History.{BookView}
use Rattle.drive_answers.specs.Ways.{Ways}
use Rattle.session_answers.specs.HostAnswers.{SessionEnd}
use Rattle.command_words.specs.Jobs.{Files, file_uses, files_of}
use Rattle.command_words.specs.declared.jobs.Job.{Job}
use Rattle.command_words.specs.declared.jobs.Job.TheVariants.{Ports as OverPorts, Texts}
use Rattle.command_words.specs.declared.jobs.PortJob.{PortJob}
use Rattle.command_words.specs.declared.jobs.TextJob.{TextJob}
use Rattle.named_files.specs.Contents.{AreContents}
use Rattle.exchange.specs.Outcomes.{HasTold, IsFinished, IsJobFailure, IsNothing, IsUnanswered, response_of}
use Rattle.named_files.specs.Notes.{IsNoAnswer, IsRefused}
use Rattle.exchange.specs.Keeping.{AreKept, AreKeptBut}
use Rattle.named_files.specs.Outputs.{no_write_failures}
use Rattle.named_files.specs.Streams.{Closed}
use Rattle.exchange.specs.Responses.{Given, IsAnswerTo, IsJobAnswer, IsJobCut, IsPortAnswer, IsTextAnswer, IsToldCut, Named, given_by}
use Rattle.named_files.specs.DistinctFiles.{AreSeenApart}
use Rattle.recorded_sessions.specs.declared.job_result.JobResult.{JobResult}
use Rattle.named_files.specs.declared.write_failures.WriteFailures.{WriteFailures}
use Rattle.exchange.specs.declared.answered.NotedAnswer.{NotedAnswer}
use Rattle.named_files.specs.declared.notes.JobFailure.{JobFailure}
use Rattle.named_files.specs.declared.notes.JobFailure.TheVariants as missed
use Rattle.named_files.specs.declared.outputs.Receipts.{Receipts}

pub ok_so : {X E : Type 0} (r : Result X E) (P Q : X → Type 0) → ((x : X) → P x → Q x) → IfOk r P → IfOk r Q
ok_so (Ok x) P Q f is = f x is
ok_so (Err e) P Q f is = tt

pub err_so : {X E : Type 0} (r : Result X E) (P Q : E → Type 0) → ((e : E) → P e → Q e) → IfErr r P → IfErr r Q
err_so (Ok x) P Q f is = tt
err_so (Err e) P Q f is = f e is

pub on_err : {X E : Type 0} (r : Result X E) (P : E → Type 0) (Q : Type 0) → ((e : E) → P e → Q) → IfErr r P → OnErr r Q
on_err (Ok x) P Q f is = tt
on_err (Err e) P Q f is = f e is

-- a refusal is no answer
pub none_of : (m : JobFailure) → IsRefused m → IsNoAnswer m
none_of (missed.File _) is = is
none_of (missed.Output _) is = is
none_of missed.NoMemory is = is
none_of (missed.OutputFailure what) is = tt

-- before it nothing was told
pub refused_so : (m : JobFailure) (behind cut : List ℕ → Type 0) (told : List ℕ) → IsRefused m → behind told → IsJobFailure behind cut told m
refused_so (missed.File _) behind cut told is so = so
refused_so (missed.Output _) behind cut told is so = so
refused_so missed.NoMemory behind cut told is so = so
refused_so (missed.OutputFailure what) behind cut told is so = absurd is

-- what follows where there is no answer
failed_so : (m : JobFailure) (behind cut behind' cut' : List ℕ → Type 0) (told : List ℕ) → (behind told → behind' told) → (cut told → cut' told)
    → IsJobFailure behind cut told m → IsJobFailure behind' cut' told m
failed_so (missed.File _) behind cut behind' cut' told f h is = f is
failed_so (missed.Output _) behind cut behind' cut' told f h is = f is
failed_so missed.NoMemory behind cut behind' cut' told f h is = f is
failed_so (missed.OutputFailure what) behind cut behind' cut' told f h is = h is

-- no port was asked for
pub no_ports : {X : Type 0} (r : Result X JobFailure) (before after : Option (List ℕ)) (is : List ℕ → X → Type 0) (cut : List ℕ → Type 0) (was : Ways)
    → HasTold before after is IsNothing cut r → HasTold before after (λ told x. is told x × (was ≡ was)) (λ told. (told ≡ []) × (was ≡ was))
    (λ told. cut told × (was ≡ was)) r
no_ports (Ok x) before after is cut was t = (t.0, t.1, (t.2, refl), tt)
no_ports (Err m) before after is cut was t =
    (t.0, t.1, tt, failed_so m IsNothing cut (λ told. (told ≡ []) × (was ≡ was)) (λ told. cut told × (was ≡ was)) t.0 (λ so. (so, refl)) (λ so. (so, refl)) t.3)

-- what sessions come to
pub told_kept : (r : Result JobResult JobFailure) (before after : Option (List ℕ)) (told : List ℕ) (is : List ℕ → JobResult → Type 0) (was : Ways)
    (ends : List SessionEnd) (cut : List ℕ → Type 0) → Appends before after told → IfOk r (is told) → IfErr r (λ m. IsRefused m × (told ≡ []) × (ends ≡ []))
    → HasTold before after is (IsUnanswered was was ends) cut r
told_kept (Ok found) before after told is was ends cut first so refused = (told, first, so, tt)
told_kept (Err m) before after told is was ends cut first so refused =
    (told, first, tt, refused_so m (IsUnanswered was was ends) cut told refused.0 (refused.1, refl, refused.2))

-- what comes of a job of texts
pub told_texts : {C : Type 0} (r : Result JobResult JobFailure) (out : Option (List ℕ)) (holds : List ℕ → List ℕ → Type 0) (received : C → Closed)
    (job : TextJob) (files : Files (List ℕ)) (given : Given) (ends : List SessionEnd) (receipts : Receipts C) (lost : WriteFailures) (cut : List ℕ → Type 0)
    → IfOk r (λ found. IsTextAnswer job files found.answer) → IfErr r IsRefused → ends ≡ [] → AreKept holds received (Texts job) None receipts → lost
    ≡ no_write_failures
    → HasTold out out (λ told found. (left : Option BookView) × IsAnswerTo holds (Texts job) files given (response_of told found left given.ports ends)
    × AreKeptBut holds received (Texts job) left receipts lost) (IsUnanswered given.ports given.ports ends) cut r
told_texts (Ok found) out holds received job files given ends receipts lost cut is refused none kept nothing =
    ([], Appends-nil out, (None, (refl, none, refl, refl, is), subst (AreKeptBut holds received (Texts job) None receipts) (sym nothing) kept), tt)
told_texts (Err m) out holds received job files given ends receipts lost cut is refused none kept nothing =
    ([], Appends-nil out, tt, refused_so m (IsUnanswered given.ports given.ports ends) cut [] refused (refl, refl, none))

-- what comes of a job of a switch
pub told_ports : {C : Type 0} (r : Result JobResult JobFailure) (before after : Option (List ℕ)) (holds : List ℕ → List ℕ → Type 0) (received : C → Closed)
    (job : PortJob) (files : Files (List ℕ)) (given : Given) (opens : Ways) (ends : List SessionEnd) (receipts : Receipts C) (lost : WriteFailures)
    (cut : List ℕ → Type 0)
    → HasTold before after (λ told found. IsPortAnswer job files given.input given.ports opens told found.answer) (λ told. (told ≡ []) × (opens ≡ given.ports))
    cut r → ends ≡ [] → AreKept holds received (OverPorts job) None receipts → lost ≡ no_write_failures
    → HasTold before after (λ told found. (left : Option BookView) × IsAnswerTo holds (OverPorts job) files given (response_of told found left opens ends)
    × AreKeptBut holds received (OverPorts job) left receipts lost) (IsUnanswered given.ports opens ends) (λ told. cut told × (ends ≡ [])) r
told_ports (Ok found) before after holds received job files given opens ends receipts lost cut t none kept nothing =
    (t.0, t.1, (None, (refl, none, t.2), subst (AreKeptBut holds received (OverPorts job) None receipts) (sym nothing) kept), tt)
told_ports (Err m) before after holds received job files given opens ends receipts lost cut t none kept nothing = (
  t.0,
  t.1,
  tt,
  failed_so m (λ told. (told ≡ []) × (opens ≡ given.ports)) cut (IsUnanswered given.ports opens ends) (λ told. cut told × (ends ≡ [])) t.0
      (λ so. (so.0, so.1, none)) (λ so. (so, none)) t.3,
)

-- an answer to a job whose files were read
pub finish : {C : Type 0} (r : Result JobResult JobFailure) (done : Result NotedAnswer JobFailure) (before after : Option (List ℕ))
    (named : Named) (received : C → Closed) (job : Job) (files : Files (List ℕ)) (rest : Option (List ℕ)) (given : Given) (opens : Ways)
    (ends : List SessionEnd) (receipts : Receipts C) (lost : WriteFailures)
    → IsFinished r lost done → AreSeenApart named.leads (file_uses job) → AreContents named.holds given.input (files_of job) files rest
    → HasTold before after (λ told found. (left : Option BookView) × IsAnswerTo named.holds job files (given_by rest given.ports given.clients)
    (response_of told found left opens ends) × AreKeptBut named.holds received job left receipts lost) (IsUnanswered given.ports opens ends)
    (λ told. IsToldCut job files rest given.ports opens told × (ends ≡ [])) r
    → HasTold before after (λ told done. (left : Option BookView)
    × IsJobAnswer named.holds given job (record { told = told; end = done.answer; left = left; ports = opens; ends = ends })
    × AreKeptBut named.holds received job left receipts done.lost) (IsUnanswered given.ports opens ends) (IsJobCut named given job opens ends) done
finish (Ok found) (Ok done) before after named received job files rest given opens ends receipts lost is apart read t =
    let left = t.2.0 in
    let answer = subst (λ (p : Printed). IsAnswerTo named.holds job files (given_by rest given.ports given.clients)
    (record { told = t.0; end = p; left = left; ports = opens; ends = ends })) (sym is.0) t.2.1 in
    (t.0, t.1, (left, (files, rest, read, answer), subst (AreKeptBut named.holds received job left receipts) (sym is.1) t.2.2), tt)
finish (Ok found) (Err e) before after named received job files rest given opens ends receipts lost is apart read t = absurd is
finish (Err e) (Ok done) before after named received job files rest given opens ends receipts lost is apart read t = absurd is
finish (Err m) (Err told) before after named received job files rest given opens ends receipts lost is apart read t =
    let behind = IsUnanswered given.ports opens ends in
    let cut = IsJobCut named given job opens ends in (
      t.0,
      t.1,
      tt,
      subst (IsJobFailure behind cut t.0) (sym is) (failed_so m behind (λ told. IsToldCut job files rest given.ports opens told × (ends ≡ [])) behind cut t.0
          (λ so. so) (λ so. (apart, files, rest, read, so.0, so.1)) t.3),
    )

-- what is so where it went well
pub so_where_ok : {U E : Type 0} (r : Result U E) (P : Type 0) → IsOk r → OnOk r P → P
so_where_ok (Ok u) P ok so = so
so_where_ok (Err e) P ok so = absurd (let bad = ok in cc)

pub always : {X E : Type 0} (r : Result X E) (P : Type 0) → P → OnOk r P
always (Ok x) P so = so
always (Err e) P so = tt

pub always_err : {X E : Type 0} (r : Result X E) (P : Type 0) → P → OnErr r P
always_err (Ok x) P so = tt
always_err (Err e) P so = so

pub err_finished : (r : Result JobResult JobFailure) (lost : WriteFailures) (done : Result NotedAnswer JobFailure) (P : Type 0) → IsFinished r lost done
    → OnErr r P → OnErr done P
err_finished r lost (Ok done) P is so = tt
err_finished (Ok found) lost (Err e) P is so = absurd is
err_finished (Err m) lost (Err e) P is so = so
