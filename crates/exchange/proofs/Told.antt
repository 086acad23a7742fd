-- What is printed after what a session was told, and what is told beside it.
use Rattle.std.proofs.Common.{ap₂}
use Rattle.std.proofs.Common.{ℕ, Bool, false, ◌++◌, ◌∷◌, List, Option, Some, None, Result, Ok, Err, IfOk, IfErr, OnErr, ap, ◌∙◌, append_assoc, append-nil, ◌⊎◌, inl, inr, refl, subst, sym, ◌≡◌, []}
use Rattle.std.specs.Prelude.{IsSomeAnd, MatchOption}
use Rattle.std.specs.Io.KnownBytes.{Appends}
use Rattle.std.proofs.KnownBytes.{Appends-nil, Appends-trans}
use Rattle.client_session.specs.Listening.{TellsOfRefusals, ListenerLog as Heard}
use Rattle.plan_answers.specs.Refusals.{Printed}
use Rattle.command_words.specs.declared.jobs.Job.{Job}
use Rattle.command_words.specs.declared.jobs.Request.{Request}
use Rattle.batch_book.specs.History.{BookView}
use Rattle.named_files.specs.declared.output_failure.OutputFailure.{OutputFailure}
use Rattle.named_files.specs.declared.output_failure.OutputFailure.TheVariants as unwritten
use Rattle.named_files.specs.declared.notes.JobFailure.{JobFailure}
use Rattle.named_files.specs.declared.notes.JobFailure.TheVariants as missed
use Rattle.refusals.specs.declared.refusal.Refusal.TheVariants as refusal
use Rattle.named_files.specs.Outputs.{no_write_failures}
use Rattle.exchange.specs.declared.answered.NotedAnswer.{NotedAnswer}
use Rattle.named_files.specs.DistinctFiles.{AreSeenApart}
use Rattle.drive_answers.specs.Ways.{Ways}
use Rattle.session_answers.specs.HostAnswers.{SessionEnd}
use Rattle.session_answers.specs.Passes.{GivenPasses, no_passes}
use Rattle.exchange.specs.Opened.{AreOpenedFor, none_opened_by_name, files_opened}
use Rattle.session_answers.specs.declared.ended_session.Ending.{Ending}
use Rattle.named_files.specs.Clients.{AreAdmitted, ends_of}
use Rattle.named_files.specs.Contents.{HasReadOnce, StandAmong}
use Rattle.exchange.specs.Responses.{Given, IsJobAnswer, IsJobCut, IsTalk, Named, Response}
use Rattle.named_files.specs.Notes.{note_of, refusal_of, unanswered, AreToldLines, GivesUp, HasToldLines, IsNoAnswer, IsNoteOn, IsToldInPart, IsToldUnless}
use Rattle.exchange.specs.Notes.{IsJobWarnedOf, IsBeside, IsNoted, MayTell, TellsLines, told_there}
use Rattle.exchange.specs.Outcomes.{IsAnswered, IsJobFailure}
use Rattle.command_words.specs.declared.jobs.ArgumentsFault.TheVariants as arguments_fault
use Rattle.clap.specs.Words.{Text}
use Rattle.command_words.specs.Jobs.{AskFor, all_files, clients_of, file_uses, files_of}
use Rattle.exchange.specs.declared.limits.TheConstants.{UNWRITTEN}
use Rattle.exchange.specs.Ends.{Leaving, Streams, IsDone, IsEndForArguments, IsCutFor, IsFaultEnd, IsPrinted, IsUnwrittenOf, streams_of}
use Rattle.named_files.proofs.Told.{bytes_of_line, file_told}

-- no session of a live client ended
pub none_served : (endings : List (Ending (List ℕ))) → endings ≡ [] → ends_of endings ≡ []
none_served endings none = rw none refl

-- what is told beside, where its cause is known of more
pub beside_of : (P Q : Type 0) (request : Request) (before after : Option (List ℕ)) → (P → Q) → IsBeside P request before after
    → IsBeside Q request before after
beside_of P Q request before after f (inl same) = inl same
beside_of P Q request before after f (inr (inl talk)) = inr (inl talk)
beside_of P Q request before after f (inr (inr (inl dropped))) = inr (inr (inl dropped))
beside_of P Q request before after f (inr (inr (inr (inl t)))) = inr (inr (inr (inl (t.0, f t.1, t.2))))
beside_of P Q request before after f (inr (inr (inr (inr lines)))) = inr (inr (inr (inr lines)))

-- lines after lines
lines_more : (a b c : Option (List ℕ)) (lines more : List (List ℕ)) → AreToldLines a b lines → AreToldLines b c more → AreToldLines a c (lines ++ more)
lines_more a b c [] more are then = subst (λ (x : Option (List ℕ)). AreToldLines x c more) are then
lines_more a b c (first ∷ lines) more are then = (are.0, are.1, are.2, lines_more are.0 b c lines more are.3 then)

pub told_lines_more : (quiet : Bool) (a b c : Option (List ℕ)) → HasToldLines quiet a b → HasToldLines quiet b c → HasToldLines quiet a c
told_lines_more quiet a b c (inl same) more = subst (λ (x : Option (List ℕ)). HasToldLines quiet x c) same more
told_lines_more quiet a b c (inr t) (inl same) = inr (t.0, (t.1.0, subst (λ (x : Option (List ℕ)). AreToldLines a x t.1.0) (sym same) t.1.1))
told_lines_more quiet a b c (inr t) (inr u) = inr (t.0, (t.1.0 ++ u.1.0, lines_more a b c t.1.0 u.1.0 t.1.1 u.1.1))

-- beside a host
pub host_beside : (overlap : Type 0) (request : Request) (before after : Option (List ℕ)) → TellsLines request.job → HasToldLines request.is_quiet before after
    → IsBeside overlap request before after
host_beside overlap request before after host (inl same) = inl same
host_beside overlap request before after host (inr t) = inr (inr (inr (inr (t.0, host, t.1))))

-- beside a session
pub talk_beside : (overlap : Type 0) (request : Request) (old new : Heard) (before mid after : Option (List ℕ)) → IsTalk request.job → request.is_quiet ≡ false
    → TellsOfRefusals MayTell old new → old.bytes ≡ before → new.bytes ≡ mid → HasToldLines request.is_quiet mid after
    → IsBeside overlap request before after
talk_beside overlap request old new before mid after talk loud told was is lines =
    let there : TellsOfRefusals MayTell (told_there old.bytes) (told_there new.bytes) =
    record { tellings = told.tellings; each = told.each; appended = told.appended; loan = refl } in
    let from = subst (λ (b : Option (List ℕ)). TellsOfRefusals MayTell (told_there b) (told_there new.bytes)) was there in
    inr (inl (
      loud,
      talk,
      (
        mid,
        subst (λ (b : Option (List ℕ)). TellsOfRefusals MayTell (told_there before) (told_there b)) is from,
        subst (λ (q : Bool). HasToldLines q mid after) loud lines,
      ),
    ))

-- what is told of an answer
noted : (overlap : Type 0) (request : Request) (end : Printed) (note : Option (List ℕ)) (eb em ea : Option (List ℕ))
    → IsNoteOn end note → IsBeside overlap request eb em → IsToldUnless request.is_quiet note em ea → IsNoted overlap request end eb ea
noted overlap request end said eb em ea on beside (inl silent) = (em, beside, inl silent)
noted overlap request end None eb em ea on beside (inr t) = absurd (let bad : None ≡ Some t.1 = t.2 in cc)
noted overlap request end (Some line) eb em ea on beside (inr t) =
    let same : t.1 ≡ line = (let e : Some line ≡ Some t.1 = t.2 in cc) in
    (em, beside, inr (t.0, t.1, rw same on, t.3))

-- an answer that is printed after it
pub answered : {E : Type 0} (r : Result ℕ E) (named : Named) (keeps : Job → Response → Type 0) (given : Given) (request : Request) (told : List ℕ)
    (left : Option BookView) (ports : Ways) (ends : List SessionEnd) (done : NotedAnswer) (out_before out_after has eb em ea : Option (List ℕ))
    → Appends out_before out_after told → AreSeenApart named.leads (file_uses request.job) → IsJobAnswer named.holds given request.job
    (record { told = told; end = done.answer; left = left; ports = ports; ends = ends })
    → (done.lost ≡ no_write_failures → keeps request.job (record { told = told; end = done.answer; left = left; ports = ports; ends = ends }))
    → IsAnswered done
    → IsBeside (IsJobWarnedOf named.holds given request.job) request eb em
    → IfOk r (λ status. IsPrinted out_after has done.answer status × (done.lost ≡ no_write_failures))
    → IsToldUnless request.is_quiet (bytes_of_line done.note) em ea
    → IfOk r (IsDone named keeps given request (streams_of out_before has eb ea))
answered (Ok status) named keeps given request told left ports ends done out_before out_after has eb em ea first apart is kept note beside then said = (
  record { told = told; end = done.answer; left = left; ports = ports; ends = ends },
  inl (apart, is),
  kept then.1,
  record { text = Appends-trans out_before out_after has told done.answer.text first then.0.text; status = then.0.status },
  noted _ request done.answer (bytes_of_line done.note) eb em ea note beside said,
)
answered (Err e) named keeps given request told left ports ends done out_before out_after has eb em ea first apart is kept note beside then said = tt

-- what was printed where there is none
refused : (m : JobFailure) (behind cut : List ℕ → Type 0) (told : List ℕ) (before after : Option (List ℕ)) (code : ℕ) → IsJobFailure behind cut told m
    → IsNoAnswer m → IsSomeAnd (refusal_of m) (λ why. IsPrinted before after (unanswered why) code)
    → behind told × (end : Printed) × GivesUp end × IsNoteOn end (note_of m) × IsPrinted before after end code
refused (missed.File note) behind cut told before after code so is then = (so, unanswered refusal.File, inl refl, file_told note is, then)
refused (missed.Output _) behind cut told before after code so is then = absurd then
refused missed.NoMemory behind cut told before after code so is then = (so, unanswered refusal.NoMemory, inr refl, tt, then)
refused (missed.OutputFailure what) behind cut told before after code so is then = absurd then

-- and why there is none
pub not_answered : {E : Type 0} (r : Result ℕ E) (named : Named) (keeps : Job → Response → Type 0) (given : Given) (request : Request) (told : List ℕ)
    (m : JobFailure) (behind cut : List ℕ → Type 0) (out_before out_after has eb em ea : Option (List ℕ))
    → Appends out_before out_after told → IsJobFailure behind cut told m
    → (behind told → (told ≡ []) × ((end : Printed) → keeps request.job (record { told = told; end = end; left = None; ports = given.ports; ends = [] })))
    → IsNoAnswer m → IsBeside (IsJobWarnedOf named.holds given request.job) request eb em
    → IfOk r (λ code. IsSomeAnd (refusal_of m) (λ why. IsPrinted out_after has (unanswered why) code)) → IsToldUnless request.is_quiet (note_of m) em ea
    → IfOk r (IsDone named keeps given request (streams_of out_before has eb ea))
not_answered (Ok status) named keeps given request told m behind cut out_before out_after has eb em ea first so kept is beside then said =
    let t = refused m behind cut told out_after has status so is then in
    let none = kept t.0 in (
      record { told = told; end = t.1; left = None; ports = given.ports; ends = [] },
      inr (none.0, refl, refl, refl, t.2),
      none.1 t.1,
      record { text = Appends-trans out_before out_after has told t.1.text first t.4.text; status = t.4.status },
      noted _ request t.1 (note_of m) eb em ea t.3 beside said,
    )
not_answered (Err e) named keeps given request told m behind cut out_before out_after has eb em ea first so kept is beside then said = tt

-- what the program ends with, where what is printed has this as its status, or can't be written
pub ended : {E : Type 0} (r : Result ℕ E) (exit : ℕ) (P : Option (List ℕ) → ℕ → Type 0) (cut : Type 0) (before after : Option (List ℕ))
    → IfOk r (P before) → OnErr r cut → IfOk r (λ status. (exit ≡ status) × (after ≡ before)) → OnErr r (exit ≡ UNWRITTEN) → ((exit ≡ UNWRITTEN) × cut)
    ⊎ P after exit
ended (Ok status) exit P cut before after is missed done unwritten =
    inr (subst (λ (e : Option (List ℕ)). P e exit) (sym done.1) (subst (P before) (sym done.0) is))
ended (Err e) exit P cut before after is missed done unwritten = inl (unwritten, missed)

-- the status is that which was given
pub ended_status : {E : Type 0} (r : Result ℕ E) (exit : ℕ) (P : Type 0) → IfOk r (λ status. (exit ≡ status) × P) → IfOk r (λ status. exit ≡ status)
ended_status (Ok status) exit P is = is.0
ended_status (Err e) exit P is = tt

-- the same of what is said of the status alone
pub ended_so : {E : Type 0} (r : Result ℕ E) (exit : ℕ) (P : ℕ → Type 0) → IfOk r P → IfOk r (λ status. exit ≡ status) → OnErr r (exit ≡ UNWRITTEN)
    → (exit ≡ UNWRITTEN) ⊎ P exit
ended_so (Ok status) exit P is done unwritten = inr (subst P (sym done) is)
ended_so (Err e) exit P is done unwritten = inl unwritten

-- a front of it was printed after what was told
printed_in_part : (before mid after : Option (List ℕ)) (told text : List ℕ) → Appends before mid told → IsToldInPart mid after text
    → IsToldInPart before after (told ++ text)
printed_in_part before mid after told text first t = (
  told ++ t.0,
  t.1,
  ap (λ (x : List ℕ). told ++ x) t.2 ∙ sym (append_assoc told t.0 t.1),
  Appends-trans before mid after told t.0 first t.3,
)

-- what couldn't be written of an answer
of_answer : (done : NotedAnswer) (what : OutputFailure) (before after : Option (List ℕ)) → IsUnwrittenOf done before after what
    → IsToldInPart before after done.answer.text
of_answer done (unwritten.Answer error lost) before after is = is.1
of_answer done unwritten.Nowhere before after is = absurd is
of_answer done (unwritten.Setting reason) before after is = absurd is
of_answer done (unwritten.SessionFiles lost) before after is = (done.answer.text, [], sym (append-nil done.answer.text), is.0)

pub answered_in_part : (r : Result ℕ OutputFailure) (named : Named) (leaves : Leaving) (arguments : List (List ℕ)) (given : Given) (request : Request)
    (told : List ℕ) (left : Option BookView) (done : NotedAnswer) (before mid after : Option (List ℕ))
    → AskFor arguments request → Appends before mid told → AreSeenApart named.leads (file_uses request.job) → IsJobAnswer named.holds given request.job
    (record { told = told; end = done.answer; left = left; ports = leaves.ports; ends = leaves.ends })
    → leaves.keeps request.job (record { told = told; end = done.answer; left = left; ports = leaves.ports; ends = leaves.ends })
    → IfErr r (IsUnwrittenOf done mid after) → OnErr r (IsCutFor named leaves arguments given before after)
answered_in_part (Ok status) named leaves arguments given request told left done before mid after ask first apart is keeps cut = tt
answered_in_part (Err what) named leaves arguments given request told left done before mid after ask first apart is keeps cut =
    let response : Response = record { told = told; end = done.answer; left = left; ports = leaves.ports; ends = leaves.ends } in (
      Ok request,
      ask,
      tt,
      inl (response, inl (apart, is), keeps, printed_in_part before mid after told done.answer.text first (of_answer done what mid after cut)),
    )

-- where there is none, a front of why; nothing, where something couldn't be written before
cut_short : (m : JobFailure) (behind cut : List ℕ → Type 0) (told : List ℕ) (before after : Option (List ℕ)) → IsJobFailure behind cut told m
    → MatchOption (refusal_of m) (after ≡ before) (λ why. IsToldInPart before after (unanswered why).text)
    → (behind told × (end : Printed) × GivesUp end × IsToldInPart before after end.text) ⊎ (cut told × (after ≡ before))
cut_short (missed.File _) behind cut told before after so part = inl (so, unanswered refusal.File, inl refl, part)
cut_short (missed.Output _) behind cut told before after so part =
    inl (
      so,
      unanswered refusal.File,
      inl refl,
      ([], (unanswered refusal.File).text, refl, subst (λ (x : Option (List ℕ)). Appends before x []) (sym part) (Appends-nil before)),
    )
cut_short missed.NoMemory behind cut told before after so part = inl (so, unanswered refusal.NoMemory, inr refl, part)
cut_short (missed.OutputFailure what) behind cut told before after so part = inr (so, part)

pub refused_in_part : {E : Type 0} (r : Result ℕ E) (named : Named) (leaves : Leaving) (arguments : List (List ℕ)) (given : Given) (request : Request)
    (told : List ℕ) (m : JobFailure) (behind : List ℕ → Type 0) (before mid after : Option (List ℕ))
    → AskFor arguments request → Appends before mid told
    → IsJobFailure behind (IsJobCut named given request.job leaves.ports leaves.ends) told m
    → (behind told → (told ≡ [])
    × ((end : Printed) → leaves.keeps request.job (record { told = told; end = end; left = None; ports = given.ports; ends = [] })))
    → leaves.cut request.job → OnErr r (MatchOption (refusal_of m) (after ≡ mid) (λ why. IsToldInPart mid after (unanswered why).text))
    → OnErr r (IsCutFor named leaves arguments given before after)
refused_in_part (Ok status) named leaves arguments given request told m behind before mid after ask first so keeps unkept cut = tt
refused_in_part (Err e) named leaves arguments given request told m behind before mid after ask first so keeps unkept cut = (
  Ok request,
  ask,
  tt,
  elim (cut_short m behind (IsJobCut named given request.job leaves.ports leaves.ends) told mid after so cut) [
    | inl t ↦
        let none = keeps t.0 in
        let response : Response = record { told = told; end = t.1; left = None; ports = given.ports; ends = [] } in
        inl (response, inr (none.0, refl, refl, refl, t.2), none.1 t.1, printed_in_part before mid after told t.1.text first t.3)
    | inr t ↦ inr (told, t.0, unkept, subst (λ (x : Option (List ℕ)). Appends before x told) (sym t.1) first)
  ],
)

-- the end for a request
pub asked : {E : Type 0} (r : Result ℕ E) (named : Named) (keeps : Job → Response → Type 0) (none : Type 0) (arguments : List (List ℕ)) (given : Given)
    (request : Request) (streams : Streams) → AskFor arguments request → IfOk r (IsDone named keeps given request streams)
    → IfOk r (IsEndForArguments named keeps none arguments given streams)
asked (Ok status) named keeps none arguments given request streams ask is = (Ok request, ask, tt, is)
asked (Err e) named keeps none arguments given request streams ask is = tt

-- want of memory for the arguments
pub without_arguments : {E : Type 0} (r : Result ℕ E) (out_before has err : Option (List ℕ)) → IfOk r (IsPrinted out_before has (unanswered refusal.NoMemory))
    → IfOk r (IsFaultEnd arguments_fault.NoMemory (streams_of out_before has err err))
without_arguments (Ok status) out_before has err is = (is, Appends-nil err)
without_arguments (Err e) out_before has err is = tt

-- what was told, and then a note
pub told_more : (quiet : Bool) (note : Option (List ℕ)) (a b c : Option (List ℕ)) (told : List ℕ) → Appends a b told → IsToldUnless quiet note b c
    → (more : List ℕ) × Appends a c more
told_more quiet said a b c told first (inl none) = (told ++ [], Appends-trans a b c told [] first none)
told_more quiet said a b c told first (inr t) = (told ++ t.3.0, Appends-trans a b c told t.3.0 first t.3.3)

-- ---- which files were opened by name

pub opened_for : (words : List Text) (request : Request) (ends : List SessionEnd) (passes : GivenPasses) (before after : List Text) → AskFor words request
    → AreAdmitted (clients_of request.job) ends passes.admitted → HasReadOnce (all_files (files_of request.job)) before after → before ≡ []
    → AreOpenedFor words ends (files_opened passes after)
opened_for words request ends passes before after asks admitted is none = inl (
  request,
  asks,
  admitted,
  subst (λ (read : List Text). StandAmong read (all_files (files_of request.job))) (sym (is.1 ∙ ap (λ (names : List Text). names ++ is.0) none)) is.2,
)

pub none_opened_so : (passes : GivenPasses) (read : List Text) → passes ≡ no_passes → read ≡ [] → files_opened passes read ≡ none_opened_by_name
none_opened_so passes read new unread = ap₂ files_opened new unread

pub none_opened_for : (words : List Text) (endings : List (Ending (List ℕ))) (passes : GivenPasses) (read : List Text) → endings ≡ [] → passes ≡ no_passes
    → read ≡ [] → AreOpenedFor words (ends_of endings) (files_opened passes read)
none_opened_for words endings passes read none new unread = inr (none_served endings none, none_opened_so passes read new unread)
