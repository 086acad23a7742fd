-- What comes of live sessions.
use Rattle.std.proofs.Common.{◌≡◌, ◌≢◌, ◌⊎◌, ◌∙◌, Bool, List, [], ◌∷◌, ℕ, Option, Some, None, Result, Ok, Err, ap, inl, inr, length, map, sym, subst, refl}
use Rattle.std.specs.List.{range_with_len}
use Rattle.clap.specs.Words.{Text}
use Rattle.module_memory.specs.Store.{Store}
use Rattle.batch_book.specs.History.{BookView}
use Rattle.plan_answers.specs.Refusals.{Printed}
use Rattle.rack_answers.specs.Openings.{IsRackOf}
use Rattle.refusals.specs.declared.refusal.Refusal.{Refusal}
use Rattle.refusals.specs.declared.refusal.Refusal.TheVariants.{NoMemory, Threads}
use Rattle.command_words.specs.declared.jobs.SharedRack.{SharedRack}
use Rattle.session_answers.specs.HostAnswers.{HostedSession, KnownClients, SessionEnd}
use Rattle.session_answers.specs.declared.ended_session.Ending.{Ending}
use Rattle.named_files.specs.Clients.{AreAdmitted, clients_by, ends_of}
use Rattle.recorded_sessions.specs.Live.{AreAdmittedBy, IsHostOver, IsLived, IsTalkOver, IsUnserved, left_by}
use Rattle.recorded_sessions.specs.Outcomes.{IsToldBy}
use Rattle.recorded_sessions.specs.Keeping.{AreLiveKept}
use Rattle.recorded_sessions.specs.Records.{BeginsWith, IsCutFromRecord}
use Rattle.named_files.specs.Streams.{Closed}
use Rattle.recorded_sessions.specs.Answers.{Sessions, hosting, loses, talking}
use Rattle.recorded_sessions.specs.declared.job_result.CutEntry.{CutEntry}
use Rattle.recorded_sessions.specs.declared.job_result.JobResult.{JobResult}
use Rattle.recorded_sessions.specs.declared.live.SessionsResult.{SessionsResult}
use Rattle.named_files.specs.declared.write_failures.WriteFailures.{WriteFailures}
use Rattle.named_files.specs.declared.notes.JobFailure.{JobFailure}
use Rattle.named_files.specs.declared.outputs.Receipts.{Receipts}

-- sessions that didn't begin
unserved_of : {C : Type 0} (holds : List ℕ → List ℕ → Type 0) (received : C → Closed) (shared : SharedRack) (names : List Text) (image : Option (List ℕ))
    (sessions : Printed → Sessions) (none : Type 0) (r : Result JobResult JobFailure) (receipts : Receipts C) (lost : WriteFailures) (cut : Option CutEntry)
    → IsUnserved holds received shared names image (record { end = r; receipts = receipts; lost = lost; cut = cut }) → ((p : Printed) → (sessions p).unserved)
    → none → IsLived holds received shared names image sessions none (record { end = r; receipts = receipts; lost = lost; cut = cut })
unserved_of holds received shared names image sessions none (Ok found) receipts lost cut is unserved so =
    record { answer = (None, (unserved found.answer, (is.answer.0, is.answer.1, inl is.answer.2)), is.left, tt); missed = tt }
unserved_of holds received shared names image sessions none (Err e) receipts lost cut is unserved so =
    record { answer = tt; missed = (is.missed, so, (is.left.0, is.left.1, refl)) }

pub unserved_lived : {C : Type 0} (holds : List ℕ → List ℕ → Type 0) (received : C → Closed) (shared : SharedRack) (names : List Text) (image : Option (List ℕ))
    (sessions : Printed → Sessions) (none : Type 0) (kept : SessionsResult C)
    → IsUnserved holds received shared names image kept → ((p : Printed) → (sessions p).unserved) → none → IsLived holds received shared names image sessions
    none kept
unserved_lived holds received shared names image sessions none kept = unserved_of holds received shared names image sessions none kept.end kept.receipts
    kept.lost kept.cut

-- how sessions that may have begun ended
pub record IsEnding (sessions : Printed → Sessions) (none : Type 0) (was left : BookView) (end : Result Printed Refusal) : Type 0 where
  pub done : (p : Printed) → end ≡ Ok p → (sessions p).served was left
  pub unserved : (why : Refusal) → end ≡ Err why → (p : Printed) → (sessions p).unserved
  pub so : (why : Refusal) → end ≡ Err why → none
  pub refused : (why : Refusal) → end ≡ Err why → why ≢ NoMemory → (p : Printed) → (sessions p).may_refuse why

lived_of : {C : Type 0} (holds : List ℕ → List ℕ → Type 0) (received : C → Closed) (shared : SharedRack) (names : List Text) (image : Option (List ℕ))
    (sessions : Printed → Sessions) (none : Type 0) (end : Result Printed Refusal) (was left : BookView) (opening : Store) (r : Result JobResult JobFailure)
    (receipts : Receipts C) (lost : WriteFailures) (cut : Option CutEntry)
    → IsRackOf shared.shape image opening → BeginsWith holds shared.record_out opening names was → IsToldBy end r → AreLiveKept holds received shared names
    (left_by end left) receipts lost → IsEnding sessions none was left end → IsCutFromRecord holds shared.record_out names was cut
    → IsLived holds received shared names image sessions none (record { end = r; receipts = receipts; lost = lost; cut = cut })
lived_of holds received shared names image sessions none (Ok p) was left opening (Ok found) receipts lost cut rack begins told keeps ending cut_is =
    record {
      answer = (
        Some left,
        (opening, rack, was, begins, subst (λ (q : Printed). (sessions q).served was left) (sym told) (ending.done p refl)),
        keeps,
        (opening, was, begins, cut_is),
      );
      missed = tt;
    }
lived_of holds received shared names image sessions none (Ok p) was left opening (Err e) receipts lost cut rack begins told keeps ending cut_is = absurd told
lived_of holds received shared names image sessions none (Err why) was left opening (Ok found) receipts lost cut rack begins told keeps ending cut_is =
    record {
      answer = (None, (ending.unserved why refl found.answer, (why, told, inr (opening, rack, ending.refused why refl told.0 found.answer))), keeps, tt);
      missed = tt;
    }
lived_of holds received shared names image sessions none (Err why) was left opening (Err e) receipts lost cut rack begins told keeps ending cut_is =
    record { answer = tt; missed = (told, ending.so why refl, (keeps.0, keeps.1, refl)) }

pub lived : {C : Type 0} (holds : List ℕ → List ℕ → Type 0) (received : C → Closed) (shared : SharedRack) (names : List Text) (image : Option (List ℕ))
    (sessions : Printed → Sessions) (none : Type 0) (end : Result Printed Refusal) (was left : BookView) (opening : Store) (kept : SessionsResult C)
    → IsRackOf shared.shape image opening → BeginsWith holds shared.record_out opening names was → IsToldBy end kept.end
    → AreLiveKept holds received shared names (left_by end left) kept.receipts kept.lost → IsEnding sessions none was left end
    → IsCutFromRecord holds shared.record_out names was kept.cut → IsLived holds received shared names image sessions none kept
lived holds received shared names image sessions none end was left opening kept = lived_of holds received shared names image sessions none end was left opening
    kept.end kept.receipts kept.lost kept.cut

pub none_ended : (before after : List (Ending (List ℕ))) → before ≡ [] → after ≡ before → ends_of after ≡ []
none_ended before after none same = ap ends_of (same ∙ none)

only_threads : (why : Refusal) → (why ≡ Threads) ⊎ (why ≡ NoMemory) → why ≢ NoMemory → why ≡ Threads
only_threads why (inl t) not_memory = t
only_threads why (inr m) not_memory = absurd (not_memory m)

-- those of a host's clients
pub host_ending : (shared : SharedRack) (clients : KnownClients) (before after : List (Ending (List ℕ))) (was left : BookView) (end : Result Printed Refusal)
    → before ≡ [] → IsHostOver (loses shared) was clients before after end left → IsEnding (hosting shared clients (ends_of after)) (ends_of after ≡ []) was
    left end
host_ending shared clients before after was left (Ok p) none over = record {
  done = λ q is. subst (λ (e : Result Printed Refusal). IsHostOver (loses shared) was clients before after e left) is over;
  unserved = λ why is. absurd (let bad = is in cc);
  so = λ why is. absurd (let bad = is in cc);
  refused = λ why is. absurd (let bad = is in cc);
}
host_ending shared clients before after was left (Err e) none over = record {
  done = λ q is. absurd (let bad = is in cc);
  unserved = λ why is q. none_ended before after none over.2;
  so = λ why is. none_ended before after none over.2;
  refused = λ why is not_memory q. let same : e ≡ why = (let x = is in cc) in only_threads why
      (subst (λ (w : Refusal). (w ≡ Threads) ⊎ (w ≡ NoMemory)) same over.0) not_memory;
}

-- that of one client
pub talk_ending : (shared : SharedRack) (before after : Option (List ℕ)) (told : List ℕ) (was left : BookView) (end : Result Printed Refusal)
    → IsTalkOver (loses shared) was before after told end left → IsEnding (talking shared before after told) (told ≡ []) was left end
talk_ending shared before after told was left (Ok p) over = record {
  done = λ q is. subst (λ (e : Result Printed Refusal). IsTalkOver (loses shared) was before after told e left) is over;
  unserved = λ why is. absurd (let bad = is in cc);
  so = λ why is. absurd (let bad = is in cc);
  refused = λ why is. absurd (let bad = is in cc);
}
talk_ending shared before after told was left (Err e) over = record {
  done = λ q is. absurd (let bad = is in cc);
  unserved = λ why is q. over.2;
  so = λ why is. over.2.1;
  refused = λ why is not_memory q. absurd (not_memory (let same : e ≡ why = (let x = is in cc) in sym same ∙ over.0));
}

-- ---- whose files were opened

ended_admitted : (names : List Text) (es : List SessionEnd) (vs : List HostedSession) (admitted : List Text) → map (λ (v : HostedSession). v.end) vs ≡ es
    → map (λ (v : HostedSession). v.part.session) vs ≡ range_with_len 0 (length names) → admitted ≡ names → AreAdmitted names es admitted
ended_admitted names (e ∷ es) vs admitted ended numbers is = is
ended_admitted [] [] vs admitted ended numbers is = is
ended_admitted (name ∷ names) [] [] admitted ended numbers is = absurd (cc)
ended_admitted (name ∷ names) [] (v ∷ vs) admitted ended numbers is = absurd (cc)

-- the clients of a host were admitted where their sessions ended
pub admitted_so : (loses : Bool) (was : BookView) (comes : List ℕ → Option (List ℕ)) (begins : List ℕ → List ℕ) (names : List Text)
    (before after : List (Ending (List ℕ))) (end : Result Printed Refusal) (left : BookView) (admitted : List Text)
    → before ≡ [] → IsHostOver loses was (clients_by comes begins names) before after end left → AreAdmittedBy names end admitted
    → AreAdmitted names (ends_of after) admitted
admitted_so loses was comes begins names before after (Ok p) left admitted none over is = ended_admitted names (ends_of after) over.0 admitted over.1
    over.2.numbers is
admitted_so loses was comes begins names before after (Err why) left admitted none over is =
    subst (λ (es : List SessionEnd). AreAdmitted names es admitted) (sym (none_ended before after none over.2)) is
