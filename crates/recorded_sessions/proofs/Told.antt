-- What a record holds of the entries that were told.
use Rattle.std.proofs.Common.{◌≡◌, ◌∙◌, ◌++◌, ℕ, Bool, true, false, is_some, List, [], Option, Some, None, IfSome, Result, Ok, Err, OnErr, OnOk, append-nil, append_assoc, length, ap, sym, subst, refl}
use Rattle.std.specs.Prelude.{MatchOption}
use Rattle.std.specs.Io.KnownBytes.{Appends}
use Rattle.byte_streams.specs.Writing.{IsCutShort}
use Rattle.clap.specs.Words.{Text}
use Rattle.batch_book.specs.History.{BookView}
use Rattle.book_record.specs.RecordText.{texts}
use Rattle.book_record.specs.Streams.{IsWritten as IsStreamed}
use Rattle.book_record.specs.Heads.{record_of, whole_record}
use Rattle.recorded_sessions.specs.Keeping.{HasAllTold, HasGrown}
use Rattle.recorded_sessions.specs.Live.{IsFinishedBook}
use Rattle.recorded_sessions.specs.Records.{IsSoFar, record_front}
use Rattle.recorded_sessions.specs.declared.live.FinishedSessions.{FinishedSessions}
use Rattle.recorded_sessions.proofs.Lived.{come_is, front_on}
use Rattle.named_files.specs.Outputs.{IsFileWritten}
use Rattle.named_files.proofs.Named.{by_more}
use Rattle.named_files.specs.Streams.{Closed, IsFrontOf, IsLeftOf, written_by, written_to}
use Rattle.named_files.specs.declared.write_failures.WriteFailure.{WriteFailure}
use Rattle.named_files.proofs.Written.{grown}

-- what was written, or a front of it, was put after what stood there
pub grown_by : {E : Type 0} (r : Result Unit E) (old new : Option (List ℕ)) (bytes : List ℕ) → OnOk r (Appends old new bytes)
    → OnErr r (IsCutShort old new bytes) → HasGrown old new
grown_by (Ok u) old new bytes went cut = (bytes, went)
grown_by (Err e) old new bytes went cut = (cut.front, cut.appended)

-- so it is once the file of a name is closed
so_some : (whole : Bool) (text : List ℕ) (after : Option (List ℕ)) → IsSoFar whole text after → (held : List ℕ) × (after ≡ Some held)
so_some true text after is = (text, is)
so_some false text after is = (is.0, is.3)

pub grown_closed : {C : Type 0} (received : C → Closed) (name : Option Text) (receipt : C) (old new : Option (List ℕ)) (durable whole : Bool) (text : List ℕ)
    → is_some name ≡ true → IsSoFar whole text (written_by name old) → IsLeftOf new durable (received receipt) → HasGrown old new
    → HasGrown (written_by name old) (received receipt).bytes
grown_closed received None receipt old new durable whole text has so is g = absurd (let bad : false ≡ true = has in cc)
grown_closed received (Some name) receipt old new durable whole text has so is g =
    let s = so_some whole text (written_to name old) so in
    let more : written_to name new ≡ Some (s.0 ++ g.0) = by_more (Some name) old new s.0 g.0 s.1 g.1 in
    let bytes : (received receipt).bytes ≡ Some (s.0 ++ g.0) = ap (λ (c : Closed). c.bytes) (is name (s.0 ++ g.0) more) in (
      g.0,
      subst (λ (o : Option (List ℕ)). Appends o (received receipt).bytes g.0) (sym s.1)
          (subst (λ (o : Option (List ℕ)). Appends (Some s.0) o g.0) (sym bytes) refl),
    )

-- a file that was written has a front of what was to be written
front_written : {C : Type 0} (received : C → Closed) (name : Option Text) (bytes : List ℕ) (receipt : C) (lost : Option WriteFailure)
    → IsFileWritten received name bytes (Some receipt) lost → IsFrontOf bytes (received receipt).bytes
front_written received None bytes receipt lost is = absurd (let bad : Some receipt ≡ None = is.0 in cc)
front_written received (Some name) bytes receipt None is = (bytes, [], sym (append-nil bytes), is.0)
front_written received (Some name) bytes receipt (Some why) is = is.0

-- a record that was begun has each entry that stands where it belongs
has_at : (names : List Text) (was left : BookView) (bytes after : Option (List ℕ)) → left.opening ≡ was.opening → IsStreamed (Some (record_front names was))
    bytes was.history left.durable left.history left.whole → HasGrown bytes after → (rest : List ℕ)
    × (after ≡ Some (record_of names left.opening left.durable ++ rest))
has_at names was left bytes after same w g =
    let before = record_front names was in
    let added = texts (length was.history) w.added in (
      w.front ++ g.0,
      grown bytes after (before ++ (added ++ w.front)) g.0 (come_is names was left bytes w) g.1
          ∙ ap Some (ap (λ (x : List ℕ). x ++ g.0) (sym (append_assoc before added w.front)) ∙ append_assoc (before ++ added) w.front g.0
          ∙ ap (λ (x : List ℕ). x ++ (w.front ++ g.0)) (sym (front_on names was left.opening left.durable w.added same w.stand))),
    )

told_at : (names : List Text) (left : BookView) (after : Option (List ℕ)) → IsFrontOf (whole_record names left.opening left.history) after → (rest : List ℕ)
    × (after ≡ Some (record_of names left.opening left.durable ++ rest)) → HasAllTold names left after
told_at names left after f has =
    let file = record_of names left.opening left.durable ++ has.0 in
    let same : f.0 ≡ file = (let e : Some f.0 ≡ Some file = sym f.3 ∙ has.1 in cc) in
    (file, has.1, record { rest = has.0; has = refl; missing = f.1; cut = f.2 ∙ ap (λ (x : List ℕ). x ++ f.1) same })

all_told_in : {F C : Type 0} (contents : F → Option (List ℕ)) (received : C → Closed) (name : Option Text) (names : List Text) (was left : BookView)
    (stream : Option F) (recorded : Option C) (lost : Option WriteFailure) → left.opening ≡ was.opening
    → IfSome stream (λ file. IsStreamed (Some (record_front names was)) (contents file) was.history left.durable left.history left.whole)
    → MatchOption stream (recorded ≡ None) (λ file. IfSome recorded (λ r. HasGrown (contents file) (received r).bytes))
    → IsFileWritten received name (whole_record names left.opening left.history) recorded lost → IfSome recorded (λ r. HasAllTold names left (received r).bytes)
all_told_in contents received name names was left None None lost same text g written = tt
all_told_in contents received name names was left None (Some r) lost same text g written = absurd cc
all_told_in contents received name names was left (Some file) None lost same text g written = tt
all_told_in contents received name names was left (Some file) (Some r) lost same text g written =
    told_at names left (received r).bytes (front_written received name (whole_record names left.opening left.history) r lost written)
    (has_at names was left (contents file) (received r).bytes same text g)

-- so it is of the record of sessions
pub all_told : {F C : Type 0} (contents : F → Option (List ℕ)) (received : C → Closed) (name : Option Text) (names : List Text) (was left : BookView)
    (over : FinishedSessions F) (recorded : Option C) (lost : Option WriteFailure) → IsFinishedBook contents names was left over
    → MatchOption over.stream (recorded ≡ None) (λ file. IfSome recorded (λ r. HasGrown (contents file) (received r).bytes))
    → IsFileWritten received name (whole_record names left.opening left.history) recorded lost
    → IfSome recorded (λ r. HasAllTold names left (received r).bytes)
all_told contents received name names was left over recorded lost is = all_told_in contents received name names was left over.stream recorded lost is.opening
    is.text
