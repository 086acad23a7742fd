-- Live sessions, from their beginning to what is left of them.
use Rattle.std.proofs.Common.{◌≡◌, ◌∙◌, ◌++◌, ℕ, Bool, List, [], Option, Some, None, IfSome, Result, Ok, Err, OnErr, true, false, is_some, append-nil, append_assoc, length, length-append, ◌+◌, ap}
use Rattle.std.proofs.Common.{ap₂, inr, sym, subst, refl}
use Rattle.std.specs.Prelude.{option_map}
use Rattle.std.proofs.lemmas.List.{append_cancel_left, nil_from_length}
use Rattle.std.specs.Io.KnownBytes.{Appends}
use Rattle.clap.specs.Words.{Text}
use Rattle.module_memory.specs.Store.{Store}
use Rattle.batch_book.specs.declared.entry.Entry.{Entry}
use Rattle.batch_book.specs.History.{BookView, book_view}
use Rattle.book_record.proofs.Fronts.{nil_left}
use Rattle.book_record.specs.RecordText.{texts}
use Rattle.book_record.specs.Streams.{IsWritten as IsStreamed}
use Rattle.book_record.specs.Sums.{numbered}
use Rattle.book_record.proofs.Streams.{texts_append}
use Rattle.plan_answers.specs.Refusals.{Printed}
use Rattle.refusals.specs.declared.refusal.Refusal.{Refusal}
use Rattle.command_words.specs.declared.jobs.RecordFile.{RecordFile}
use Rattle.book_record.specs.Heads.{record_of}
use Rattle.record_replay.proofs.Written.{record_append}
use Rattle.session_answers.specs.Histories.{HaveOneHistory}
use Rattle.session_answers.specs.HostAnswers.{KnownClients}
use Rattle.session_answers.specs.declared.ended_session.Ending.{Ending}
use Rattle.recorded_sessions.specs.Live.{HasFront, IsHostOver, IsFinishedBook, IsFinishedBookAt, IsOverFrom, IsReady, IsTalkOver}
use Rattle.recorded_sessions.specs.Records.{BeginsWith, IsAsBegun, IsSoFar, record_front}
use Rattle.named_files.specs.Outputs.{IsLeftOfAny}
use Rattle.named_files.specs.Streams.{Closed, written_at, written_to}
use Rattle.recorded_sessions.specs.declared.live.FinishedSessions.{FinishedSessions}
use Rattle.recorded_sessions.specs.declared.live.SessionsStart.{SessionsStart}
use Rattle.named_files.proofs.Named.{by_more}
use Rattle.named_files.proofs.Written.{grown}

-- a book with which sessions may begin
pub same_account : (a : BookView) → IsReady a → book_view a.opening a.history a.history a.machine true ≡ a
same_account a ready = ap₂ (λ (es : List Entry) (whole : Bool). book_view a.opening a.history es a.machine whole) (sym ready.all) (sym ready.whole)

-- what a record tells of entries after those of a book
pub front_on : (names : List Text) (was : BookView) (opening : Store) (es added : List Entry) → opening ≡ was.opening → es ≡ was.history ++ added
    → record_of names opening es ≡ record_front names was ++ texts (length was.history) added
front_on names was opening es added same are = ap₂ (record_of names) same are ∙ record_append names was.opening was.history added

-- a stream that began with what the record tells of a book
module _ (names : List Text) (was left : BookView) (bytes : Option (List ℕ)) (w : IsStreamed (Some (record_front names was)) bytes was.history left.durable
    left.history left.whole) where
  -- what it has got since
  abbrev pub come : List ℕ
  come = texts (length was.history) w.added ++ w.front

  pub come_is : bytes ≡ Some (record_front names was ++ come)
  come_is = grown (Some (record_front names was)) bytes (record_front names was) come refl w.appended

  made_are : left.history ≡ was.history ++ (w.added ++ w.waiting)
  made_are = w.are ∙ ap (λ (es : List Entry). es ++ w.waiting) w.stand ∙ append_assoc was.history w.added w.waiting

  made_text : texts (length was.history) (w.added ++ w.waiting) ≡ come ++ w.missing
  made_text =
      let count : length was.history + length w.added ≡ length left.durable = sym (length-append was.history w.added) ∙ ap length (sym w.stand) in
      texts_append (length was.history) w.added w.waiting ∙ ap (λ (n : ℕ). texts (length was.history) w.added ++ texts n w.waiting) count
      ∙ ap (λ (x : List ℕ). texts (length was.history) w.added ++ x) w.cut ∙ sym (append_assoc (texts (length was.history) w.added) w.front w.missing)

  -- it has what the record tells so far
  pub so_far_at : (whole : Bool) → left.opening ≡ was.opening → whole ≡ left.whole → (left.whole ≡ true → left.durable ≡ left.history)
      → IsSoFar whole (record_front names left) bytes
  so_far_at true same is all =
      come_is ∙ ap Some (ap (λ (x : List ℕ). record_front names was ++ (texts (length was.history) w.added ++ x)) (w.clean (sym is))
      ∙ ap (λ (x : List ℕ). record_front names was ++ x) (append-nil (texts (length was.history) w.added))
      ∙ sym (front_on names was left.opening left.durable w.added same w.stand)
      ∙ ap (record_of names left.opening) (all (sym is)))
  so_far_at false same is all =
      let parts : record_front names left ≡ (record_front names was ++ come) ++ w.missing =
      front_on names was left.opening left.history (w.added ++ w.waiting) same made_are ∙ ap (λ (x : List ℕ). record_front names was ++ x) made_text
      ∙ sym (append_assoc (record_front names was) come w.missing) in
      (record_front names was ++ come, w.missing, parts, come_is)

  -- where no entry was made it has nothing else
  pub unasked_at : left.history ≡ was.history → bytes ≡ Some (record_front names was)
  unasked_at none =
      let no_entry : w.added ++ w.waiting ≡ [] = append_cancel_left was.history (w.added ++ w.waiting) []
      (sym made_are ∙ none ∙ sym (append-nil was.history)) in
      let nothing : come ≡ [] = nil_left come w.missing (sym (ap (texts (length was.history)) no_entry) ∙ made_text) in
      come_is ∙ ap Some (ap (λ (x : List ℕ). record_front names was ++ x) nothing ∙ append-nil (record_front names was))

so_far_in : {F : Type 0} (contents : F → Option (List ℕ)) (stream : Option F) (whole : Bool) (entries : ℕ) (names : List Text) (was left : BookView)
    → left.opening ≡ was.opening → whole ≡ left.whole → (left.whole ≡ true → left.durable ≡ left.history)
    → IfSome stream (λ file. IsStreamed (Some (record_front names was)) (contents file) was.history left.durable left.history left.whole)
    → IfSome stream (λ file. entries ≡ numbered (length left.history))
    → IfSome stream (λ file. IsSoFar whole (record_front names left) (contents file) × (entries ≡ numbered (length left.history)))
so_far_in contents None whole entries names was left opening same all text counted = tt
so_far_in contents (Some file) whole entries names was left opening same all text counted =
    (so_far_at names was left (contents file) text whole opening same all, counted)

pub so_far : {F : Type 0} (contents : F → Option (List ℕ)) (names : List Text) (was left : BookView) (over : FinishedSessions F)
    → IsFinishedBook contents names was left over
    → IfSome over.stream (λ file. IsSoFar over.is_whole (record_front names left) (contents file) × (over.entries ≡ numbered (length left.history)))
so_far {F} contents names was left over is = so_far_in contents over.stream over.is_whole over.entries names was left is.opening is.whole is.all is.text
    is.entries

-- a record whose sessions don't begin
pub as_begun : {F C : Type 0} (holds : List ℕ → List ℕ → Type 0) (contents : F → Option (List ℕ)) (received : C → Closed) (record_out : Option RecordFile)
    (opening : Store) (names : List Text) (was left : BookView) (stream : Option F) (receipt : Option C)
    → left.history ≡ was.history → BeginsWith holds record_out opening names was → is_some stream ≡ is_some record_out
    → IfSome stream (λ file. IsStreamed (Some (record_front names was)) (written_at contents (option_map (λ (r : RecordFile). r.name) record_out) file)
    was.history left.durable left.history left.whole)
    → IsLeftOfAny contents received stream receipt → IsAsBegun holds received record_out names receipt
as_begun {F} {C} holds contents received record_out opening names was left None receipt none begins has text left_none =
    subst (IsAsBegun holds received record_out names) (sym left_none) tt
as_begun holds contents received record_out opening names was left (Some file) None none begins has text left_is = absurd left_is
as_begun holds contents received None opening names was left (Some file) (Some r) none begins has text left_is = absurd (let bad : true ≡ false = has in cc)
as_begun holds contents received (Some out) opening names was left (Some file) (Some r) none begins has text left_is = (
  begins.0.0,
  record_front names was,
  begins.0.1,
  left_is out.name (record_front names was)
      (unasked_at names was left (written_to out.name (contents file)) text none),
  inr (opening, was.history, begins.0.2, inr (ap (λ (o : Store). record_of names o was.history) begins.1.0)),
)

-- Sessions over a book whose record's stream has a name.
begin_of : {F : Type 0} (contents : F → Option (List ℕ)) (first : Option F) → (before : Option (List ℕ)) × IfSome first (λ file. contents file ≡ before)
begin_of contents None = (None, tt)
begin_of contents (Some file) = (contents file, refl)

text_named : {F : Type 0} (contents : F → Option (List ℕ)) (name : Option Text) (text : List ℕ) (first last : Option F) (earlier durable all : List Entry)
    (whole : Bool) → is_some last ≡ is_some first → IfSome first (λ file. written_at contents name file ≡ Some text)
    → ((before : Option (List ℕ)) → IfSome first (λ file. contents file ≡ before)
    → IfSome last (λ file. IsStreamed before (contents file) earlier durable all whole))
    → IfSome last (λ file. IsStreamed (Some text) (written_at contents name file) earlier durable all whole)
text_named contents name text None None earlier durable all whole same front at = tt
text_named contents name text None (Some l) earlier durable all whole same front at = absurd (let bad : true ≡ false = same in cc)
text_named contents name text (Some f) None earlier durable all whole same front at = tt
text_named contents name text (Some f) (Some l) earlier durable all whole same front at =
    let w = at (contents f) refl in
    let put = texts (length earlier) w.added ++ w.front in
    let more : written_at contents name l ≡ Some (text ++ put) = by_more name (contents f) (contents l) text put front w.appended in
    record {
      added = w.added;
      stand = w.stand;
      waiting = w.waiting;
      are = w.are;
      front = w.front;
      missing = w.missing;
      cut = w.cut;
      appended =
          subst (λ (o : Option (List ℕ)). Appends (Some text) o put) (sym more) refl;
      clean = w.clean;
    }

pub over_named : {F : Type 0} (contents : F → Option (List ℕ)) (name : Option Text) (names : List Text) (start : SessionsStart F) (left : BookView)
    (over : FinishedSessions F) → IsOverFrom contents start left over → HasFront (written_at contents name) names start.book start.stream
    → IsFinishedBook (written_at contents name) names start.book left over
over_named {F} contents name names start left over o front =
    let begun = begin_of contents start.stream in
    let at = o.1 begun.0 begun.1 in
    record {
      opening = at.opening;
      machine = at.machine;
      whole = at.whole;
      all = at.all;
      text = text_named contents name (record_front names start.book)
          start.stream over.stream start.book.history left.durable left.history left.whole o.0 front (λ before is. (o.1 before is).text);
      entries = at.entries;
    }

-- The book that is left was opened with the same words. Where it is whole none of its entries
-- waits.
abbrev pub IsDurable : BookView → BookView → Type 0
IsDurable was left = (left.opening ≡ was.opening) × (left.whole ≡ true → left.durable ≡ left.history)

pub host_settled : (loses : Bool) (was : BookView) (clients : KnownClients) (before after : List (Ending (List ℕ))) (end : Result Printed Refusal)
    (left : BookView) → IsHostOver loses was clients before after end left → IsDurable was left
host_settled loses was clients before after (Ok end) left is = (is.3.one.is_opening, is.3.one.whole)
host_settled loses was clients before after (Err why) left is = (is.1.is_opening, is.1.whole)

pub talk_settled : (loses : Bool) (was : BookView) → IsReady was → (before after : Option (List ℕ)) (told : List ℕ) (end : Result Printed Refusal)
    (left : BookView) → IsTalkOver loses was before after told end left → IsDurable was left
talk_settled loses was ready before after told (Ok end) left is = (is.4.one.is_opening, is.4.one.whole)
talk_settled loses was ready before after told (Err why) left is = subst (IsDurable was) (sym is.1) (refl, λ whole. ready.all)

-- sessions that didn't begin leave no entry
unasked : (loses : Bool) (was left : BookView) → HaveOneHistory loses was.opening was.history [] left → left.history ≡ was.history
unasked loses was left h =
    let none : h.made ≡ [] = nil_from_length h.made h.counted in
    h.are ∙ ap (λ (es : List Entry). was.history ++ es) none ∙ append-nil was.history

pub host_unasked : (loses : Bool) (was : BookView) (clients : KnownClients) (before after : List (Ending (List ℕ))) (end : Result Printed Refusal)
    (left : BookView) → IsHostOver loses was clients before after end left → OnErr end (left.history ≡ was.history)
host_unasked loses was clients before after (Ok end) left is = tt
host_unasked loses was clients before after (Err why) left is = unasked loses was left is.1

pub talk_unasked : (loses : Bool) (was : BookView) (before after : Option (List ℕ)) (told : List ℕ) (end : Result Printed Refusal) (left : BookView)
    → IsTalkOver loses was before after told end left → OnErr end (left.history ≡ was.history)
talk_unasked loses was before after told (Ok end) left is = tt
talk_unasked loses was before after told (Err why) left is = ap (λ (a : BookView). a.history) is.1

pub entries_told : {F : Type 0} (stream : Option F) (entries : ℕ) (left : BookView) → entries ≡ numbered (length left.history)
    → IfSome stream (λ file. entries ≡ numbered (length left.history))
entries_told None entries left is = tt
entries_told (Some file) entries left is = is

-- what sessions leave whose beginning had a stream
pub over_recorded_from : {F : Type 0} (contents : F → Option (List ℕ)) (start : SessionsStart F) (stream : F) (left : BookView) (over : FinishedSessions F)
    → start.stream ≡ Some stream → is_some over.stream ≡ true → IsFinishedBookAt contents (contents stream) start.book left over
    → IsOverFrom contents start left over
over_recorded_from {F} contents start stream left over is has at = (
  has ∙ sym (ap is_some is),
  λ before so. let same : contents stream ≡ before = subst (λ (o : Option F). IfSome o (λ file. contents file ≡ before)) is so in
      subst (λ (b : Option (List ℕ)). IsFinishedBookAt contents b start.book left over) same at,
)

-- and whose beginning had none
pub over_silent_from : {F : Type 0} (contents : F → Option (List ℕ)) (start : SessionsStart F) (left : BookView) (over : FinishedSessions F) → start.stream
    ≡ None → IsDurable start.book left → over.bare.machine ≡ left.machine → over.is_whole ≡ left.whole → over.stream ≡ None
    → IsOverFrom contents start left over
over_silent_from {F} contents start left over is settled machine whole none = (
  ap is_some none ∙ sym (ap is_some is),
  λ before so. record {
    opening = settled.0;
    machine = machine;
    whole = whole;
    all = settled.1;
    text =
        subst (λ (o : Option F). IfSome o (λ file. IsStreamed before (contents file) start.book.history left.durable left.history left.whole)) (sym none) tt;
    entries = subst (λ (o : Option F). IfSome o (λ file. over.entries ≡ numbered (length left.history))) (sym none) tt;
  },
)
