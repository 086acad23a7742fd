-- How live sessions begin.
use Rattle.std.specs.Io.KnownBytes.{Appends}
use Rattle.byte_streams.specs.Writing.{IsCutShort}
use Rattle.named_files.proofs.Named.{gone_more}
use Rattle.std.proofs.Common.{OnErr, OnOk, ◌≡◌, ◌≢◌, ◌⊎◌, ◌∙◌, ◌++◌, rules, ℕ, Bool, List, [], Option, Some, None, IfSome, IfOk, IfErr, Result, Ok, Err, true, false, is_some, append-nil, ap, inl, inr}
use Rattle.std.proofs.Common.{length, sym, subst, refl, take}
use Rattle.std.specs.Prelude.{option_map}
use Rattle.clap.specs.Words.{Text}
use Rattle.module_memory.specs.Store.{Store}
use Rattle.batch_book.specs.History.{BookView, new_book_view}
use Rattle.plan_answers.specs.Refusals.{Refuses}
use Rattle.book_record.proofs.Fronts.{nil_left}
use Rattle.book_record.specs.Heads.{record_of, session_limit}
use Rattle.book_record.specs.Sums.{numbered}
use Rattle.rack_answers.specs.Openings.{IsRackOf, IsWrongRack}
use Rattle.refusals.specs.declared.refusal.Refusal.{Refusal}
use Rattle.refusals.specs.declared.refusal.Refusal.TheVariants.{NoMemory}
use Rattle.record_replay.specs.ReplayAnswers.{of_record}
use Rattle.command_words.specs.declared.jobs.RecordFile.{RecordFile}
use Rattle.command_words.specs.declared.jobs.SharedRack.{SharedRack}
use Rattle.recorded_sessions.specs.Live.{HasFront, IsReady, IsStarted, IsStartFailure}
use Rattle.named_files.specs.Notes.{IsRefused}
use Rattle.recorded_sessions.specs.Outcomes.{IsToldOf, IsStartError, IsUnbegunFor}
use Rattle.named_files.specs.Outputs.{IsLeftOfAny, IsOpened}
use Rattle.recorded_sessions.specs.Records.{BeginsAs, IsAsBegun, IsBookOn, IsRecordStart, IsCutFrom, head_for, record_front}
use Rattle.named_files.specs.Streams.{Closed, closed, written_at, written_to}
use Rattle.recorded_sessions.specs.Answers.{IsWrongStart}
use Rattle.recorded_sessions.specs.declared.job_result.JobResult.{JobResult}
use Rattle.recorded_sessions.specs.declared.live.SessionsStart.{SessionsStart}
use Rattle.recorded_sessions.specs.declared.live.StartFailure.{StartFailure}
use Rattle.named_files.specs.declared.notes.JobFailure.{JobFailure}
use Rattle.named_files.specs.declared.outputs.NamedOutput.{NamedOutput}
use Rattle.recorded_sessions.specs.declared.recording.StartError.{StartError}
use Rattle.recorded_sessions.specs.declared.recording.StartError.TheVariants.{Missed, Wrong}

-- what has gone to a record's file that was cut, and to which a head was written
pub cut_then : {E : Type 0} (r : Result Unit E) (old mid new : Option (List ℕ)) (held kept head : List ℕ)
    → ((name : Text) → written_to name old ≡ Some held → written_to name mid ≡ Some kept) → OnOk r (Appends mid new head)
    → OnOk r ((name : Text) → written_to name old ≡ Some held → written_to name new ≡ Some (kept ++ head))
cut_then (Ok u) old mid new held kept head cut went = λ name is. gone_more name mid new kept head (cut name is) went
cut_then (Err e) old mid new held kept head cut went = tt

-- the text that a file is left with whose head couldn't be written
abbrev pub IsLeftText : (held kept head text : List ℕ) → Type 0
IsLeftText held kept head text = (text ≡ held) ⊎ ((front rest : List ℕ) × (head ≡ front ++ rest) × (text ≡ kept ++ front))

pub cut_short : {E : Type 0} (r : Result Unit E) (old mid new : Option (List ℕ)) (held kept head : List ℕ)
    → ((name : Text) → written_to name old ≡ Some held → written_to name mid ≡ Some kept) → OnErr r (IsCutShort mid new head)
    → OnErr r ((name : Text) → written_to name old ≡ Some held → (text : List ℕ) × (written_to name new ≡ Some text) × IsLeftText held kept head text)
cut_short (Ok u) old mid new held kept head cut short = tt
cut_short (Err e) old mid new held kept head cut short = λ name is.
    (kept ++ short.front, gone_more name mid new kept short.front (cut name is) short.appended, inr (short.front, short.missing, short.bytes_are, refl))

-- nothing was cut or written
pub uncut : {E : Type 0} (r : Result Unit E) (old new : Option (List ℕ)) (held kept head : List ℕ) → new ≡ old
    → OnErr r ((name : Text) → written_to name old ≡ Some held → (text : List ℕ) × (written_to name new ≡ Some text) × IsLeftText held kept head text)
uncut (Ok u) old new held kept head same = tt
uncut (Err e) old new held kept head same = λ name is. (held, ap (written_to name) same ∙ is, inl refl)

-- what stands where the head couldn't be written whole
front_begun : (resumes : Bool) (rack : Store) (names : List Text) (was : BookView) (held head text front rest : List ℕ) (kept : ℕ)
    → was.opening ≡ rack → BeginsAs resumes held rack names was.history → take kept held ++ head ≡ record_front names was
    → ((kept ≡ 0) × (was ≡ new_book_view rack)) ⊎ (head ≡ []) → head ≡ front ++ rest → text ≡ take kept held ++ front → IsRecordStart resumes held names text
front_begun resumes rack names was held head text front rest kept on begins is (inl new) parts said =
    let none : take kept held ≡ [] = ap (λ (n : ℕ). take n held) new.0 in
    let new_front : record_front names was ≡ head_for rack names = ap (record_front names) new.1 ∙ append-nil (head_for rack names) in
    let whole : head ≡ head_for rack names = sym (ap (λ (x : List ℕ). x ++ head) none) ∙ is ∙ new_front in
    let text_is : text ≡ front = said ∙ ap (λ (x : List ℕ). x ++ front) none in
    (rack, was.history, begins, inl (rest, ap (λ (a : BookView). a.history) new.1, sym whole ∙ parts ∙ ap (λ (x : List ℕ). x ++ rest) (sym text_is)))
front_begun resumes rack names was held head text front rest kept on begins is (inr none) parts said =
    let nothing : front ≡ [] = nil_left front rest (sym none ∙ parts) in
    let kept_is : take kept held ≡ record_front names was = sym (append-nil (take kept held)) ∙ ap (λ (x : List ℕ). take kept held ++ x) (sym none) ∙ is in (
      rack,
      was.history,
      begins,
      inr (said ∙ ap (λ (x : List ℕ). take kept held ++ x) nothing ∙ append-nil (take kept held) ∙ kept_is
          ∙ ap (λ (o : Store). record_of names o was.history) on),
    )

-- how a file is left that couldn't begin
pub unstarted_file : {F C : Type 0} (contents : F → Option (List ℕ)) (received : C → Closed) (name : Text) (resumes : Bool) (rack : Store) (names : List Text)
    (was : BookView) (held lent head said : List ℕ) (kept : ℕ) (file : F) (receipt : Option C)
    → lent ≡ held → said ≡ head → was.opening ≡ rack → BeginsAs resumes held rack names was.history → take kept held ++ head ≡ record_front names was
    → ((kept ≡ 0) × (was ≡ new_book_view rack)) ⊎ (head ≡ [])
    → ((text : List ℕ) × (written_to name (contents file) ≡ Some text)
    × ((text ≡ lent) ⊎ ((front rest : List ℕ) × (said ≡ front ++ rest) × (text ≡ take kept lent ++ front))))
    → IsLeftOfAny contents received (Some file) receipt → IfSome receipt (λ r. (text : List ℕ) × (received r ≡ closed name (Some text) false)
    × ((text ≡ held) ⊎ IsRecordStart resumes held names text))
unstarted_file contents received name resumes rack names was held lent head said kept file None same is on begins front new t left = tt
unstarted_file contents received name resumes rack names was held lent head said kept file (Some r) same is on begins front new t left = (
  t.0,
  left name t.0 t.1,
  elim t.2 [
    | inl all ↦ inl (all ∙ same)
    | inr part ↦ inr (front_begun resumes rack names was held head t.0 part.0 part.1 kept on begins front new (sym is ∙ part.2)
        (part.3 ∙ ap (λ (x : List ℕ). take kept x ++ part.0) same))
  ],
)

-- and how one that is as it was
pub unbegun_file : {F C : Type 0} (contents : F → Option (List ℕ)) (received : C → Closed) (name : Text) (resumes : Bool) (names : List Text) (held : List ℕ)
    (file : F) (receipt : Option C)
    → written_to name (contents file) ≡ Some held → IsLeftOfAny contents received (Some file) receipt
    → IfSome receipt (λ r. (text : List ℕ) × (received r ≡ closed name (Some text) false) × ((text ≡ held) ⊎ IsRecordStart resumes held names text))
unbegun_file contents received name resumes names held file None is left = tt
unbegun_file contents received name resumes names held file (Some r) is left = (held, left name held is, inl refl)

-- what sessions begin with whose record has a file
pub started_in : {F U : Type 0} (r : Result (SessionsStart F) U) (holds : List ℕ → List ℕ → Type 0) (contents : F → Option (List ℕ))
    (record_out : Option RecordFile) (rack : Store) (names : List Text) (resumes : Bool) (out : NamedOutput F)
    → IsOpened contents holds (option_map (λ (o : RecordFile). o.name) record_out) (Some out) → IfSome record_out (λ o. resumes ≡ o.resumes)
    → IfOk r (λ start. BeginsAs resumes out.held.items rack names start.book.history × IsBookOn rack start.book × IsReady start.book
    × (is_some start.stream ≡ true) × HasFront (written_at contents (Some out.name.now)) names start.book start.stream)
    → IfOk r (λ start. IsCutFrom (length start.book.history) out.held.items (record_front names start.book) start.cut)
    → IfOk r (λ start. start.entries ≡ numbered (length start.book.history))
    → IfOk r (IsStarted holds (written_at contents (option_map (λ (o : RecordFile). o.name) record_out)) record_out rack names)
started_in (Err e) holds contents record_out rack names resumes out opened resume is cut counted = tt
started_in (Ok start) holds contents None rack names resumes out opened resume is cut counted = absurd (let bad : None ≡ Some out.name.now = opened.0 in cc)
started_in (Ok start) holds contents (Some file) rack names resumes out opened resume is cut counted =
    let name : out.name.now ≡ file.name = (let e : Some file.name ≡ Some out.name.now = opened.0 in cc) in
    record {
      begins = (
        (
          out.held.items,
          subst (λ (n : Text). holds n out.held.items) name opened.1,
          subst (λ (b : Bool). BeginsAs b out.held.items rack names start.book.history) resume is.0,
        ),
        is.1,
      );
      ready = is.2;
      stream = is.3;
      front = subst (λ (n : Text). HasFront (written_at contents (Some n)) names start.book start.stream) name is.4;
      entries = counted;
      cut = (out.held.items, subst (λ (n : Text). holds n out.held.items) name opened.1, cut);
    }

-- why they don't begin
unbegun_for : (holds : List ℕ → List ℕ → Type 0) (file : RecordFile) (rack : Store) (names : List Text) (resumes : Bool) (held : List ℕ) (why : StartError)
    → resumes ≡ file.resumes → holds file.name held → IsStartError resumes (session_limit (length names)) held (head_for rack names) rack why
    → IsUnbegunFor holds (Some file) rack names why
unbegun_for holds file rack names resumes held (Missed missed) same has is = is
unbegun_for holds file rack names resumes held (Wrong error) same has is = (sym same ∙ is.0, held, has, is.1)

left_in : {C : Type 0} (holds : List ℕ → List ℕ → Type 0) (received : C → Closed) (file : RecordFile) (name : Text) (names : List Text) (resumes : Bool)
    (held : List ℕ) (receipt : Option C) → name ≡ file.name → resumes ≡ file.resumes → holds file.name held
    → IfSome receipt (λ r. (text : List ℕ) × (received r ≡ closed name (Some text) false) × ((text ≡ held) ⊎ IsRecordStart resumes held names text))
    → IsAsBegun holds received (Some file) names receipt
left_in holds received file name names resumes held None named same has is = tt
left_in holds received file name names resumes held (Some r) named same has is = (
  held,
  is.0,
  has,
  is.1 ∙ ap (λ (n : Text). closed n (Some is.0) false) named,
  subst (λ (b : Bool). (is.0 ≡ held) ⊎ IsRecordStart b held names is.0) same
      is.2,
)

pub unstarted_in : {F C : Type 0} (r : Result (SessionsStart F) (StartFailure C)) (holds : List ℕ → List ℕ → Type 0) (contents : F → Option (List ℕ))
    (received : C → Closed) (record_out : Option RecordFile) (rack : Store) (names : List Text) (resumes : Bool) (out : NamedOutput F)
    → IsOpened contents holds (option_map (λ (o : RecordFile). o.name) record_out) (Some out) → IfSome record_out (λ o. resumes ≡ o.resumes)
    → IfErr r (λ end. IsStartError resumes (session_limit (length names)) out.held.items (head_for rack names) rack end.why
    × IfSome end.receipt (λ r. (text : List ℕ) × (received r ≡ closed out.name.now (Some text) false)
    × ((text ≡ out.held.items) ⊎ IsRecordStart resumes out.held.items names text)))
    → IfErr r (IsStartFailure holds received record_out rack names)
unstarted_in (Ok start) holds contents received record_out rack names resumes out opened resume is = tt
unstarted_in (Err end) holds contents received None rack names resumes out opened resume is = absurd (let bad : None ≡ Some out.name.now = opened.0 in cc)
unstarted_in (Err end) holds contents received (Some file) rack names resumes out opened resume is =
    let name : out.name.now ≡ file.name = (let e : Some file.name ≡ Some out.name.now = opened.0 in cc) in
    let has = subst (λ (n : Text). holds n out.held.items) name opened.1 in
    record {
      why = unbegun_for holds file rack names resumes out.held.items end.why resume has is.0;
      left = left_in holds received file out.name.now names
          resumes out.held.items end.receipt name resume has is.1;
    }

-- what they begin with without a record
pub new_ready : (rack : Store) (book : BookView) → book ≡ new_book_view rack → IsReady book
new_ready rack book is = subst IsReady (sym is) (record { whole = refl; all = refl; unstopped = search rules })

pub started_none : {F : Type 0} (holds : List ℕ → List ℕ → Type 0) (contents : F → Option (List ℕ)) (record_out : Option RecordFile) (rack : Store)
    (names : List Text) (book : BookView) → None ≡ option_map (λ (o : RecordFile). o.name) record_out → book ≡ new_book_view rack
    → IsStarted holds contents record_out rack names (record { book = book; entries = 0; stream = None; cut = None })
started_none holds contents (Some file) rack names book none is = absurd (let bad : None ≡ Some file.name = none in cc)
started_none holds contents None rack names book none is =
    record {
      begins = (ap (λ (a : BookView). a.history) is, subst (IsBookOn rack) (sym is) (refl, refl));
      ready = new_ready rack book is;
      stream = refl;
      front = tt;
      entries = ap (λ (a : BookView). numbered (length a.history)) (sym is);
      cut = refl;
    }

-- the refusal of a rack
pub wrong_rack : (r : Result JobResult JobFailure) (holds : List ℕ → List ℕ → Type 0) (shared : SharedRack) (names : List Text) (image : Option (List ℕ))
    (why : Refusal) → IfOk r (λ found. Refuses why found.answer) → (why ≢ NoMemory → IsWrongRack shared.shape image why)
    → IfOk r (λ found. (refusal : Refusal) × Refuses refusal found.answer × IsWrongStart holds shared names image refusal)
wrong_rack (Err e) holds shared names image why refuses wrong = tt
wrong_rack (Ok found) holds shared names image why refuses wrong = (why, refuses, inl (wrong refuses.0))

-- that of a record
pub told_unbegun : (why : StartError) (r : Result JobResult JobFailure) (holds : List ℕ → List ℕ → Type 0) (shared : SharedRack) (names : List Text)
    (image : Option (List ℕ)) (rack : Store) → IsRackOf shared.shape image rack → IsUnbegunFor holds shared.record_out rack names why → IsToldOf why r
    → IfOk r (λ found. (refusal : Refusal) × Refuses refusal found.answer × IsWrongStart holds shared names image refusal)
told_unbegun why (Err e) holds shared names image rack is unbegun told = tt
told_unbegun (Missed missed) (Ok found) holds shared names image rack is unbegun told = absurd told
told_unbegun (Wrong error) (Ok found) holds shared names image rack is unbegun told = (of_record error.fault, told, inr (rack, is, error.fault, unbegun, refl))

pub told_missed : (why : StartError) (r : Result JobResult JobFailure) (holds : List ℕ → List ℕ → Type 0) (shared : SharedRack) (names : List Text)
    (rack : Store) → IsUnbegunFor holds shared.record_out rack names why → IsToldOf why r → IfErr r IsRefused
told_missed why (Ok found) holds shared names rack unbegun told = tt
told_missed (Missed missed) (Err e) holds shared names rack unbegun told = subst IsRefused (sym told) unbegun
told_missed (Wrong error) (Err e) holds shared names rack unbegun told = told
