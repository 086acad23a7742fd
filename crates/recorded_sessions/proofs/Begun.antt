-- How the record of live sessions begins.
use Rattle.std.proofs.Common.{◌≡◌, ◌≢◌, ◌∙◌, ◌++◌, ◌-◌, ℕ, List, [], Option, None, drop, subst, true, ap, append-nil, append_assoc, arith, inr, length, length-append, refl, sym, take}
use Rattle.std.proofs.lemmas.List.{take-append-drop, take_at}
use Rattle.batch_book.specs.History.{BookView, new_book_view}
use Rattle.book_record.specs.RecordText.{texts}
use Rattle.recorded_sessions.specs.Records.{IsCutFrom, IsCutOf, IsResumed, begun_anew, gone_on, head_for, record_front}
use Rattle.module_memory.specs.Store.{Store}
use Rattle.record_replay.specs.Replays.{IsRecordError}
use Rattle.record_replay.specs.declared.fault.RecordError.{RecordError}
use Rattle.record_replay.specs.declared.fault.RecordFault.TheVariants as fault
use Rattle.recorded_sessions.specs.Outcomes.{IsStartError, IsReplayError}
use Rattle.recorded_sessions.specs.declared.job_result.CutEntry.{CutEntry}
use Rattle.recorded_sessions.specs.declared.recording.StartError.{StartError}
use Rattle.recorded_sessions.specs.declared.recording.StartError.TheVariants.{Missed, Wrong}

-- what can't be made again isn't gone on with
pub unremade : (limit : ℕ) (held head text : List ℕ) (opening : Store) (error : RecordError) (what : StartError)
    → held ≡ head ++ text → (error.fault ≢ fault.NoMemory → IsRecordError limit text opening None error) → IsReplayError error what
    → IsStartError true limit held head opening what
unremade limit held head text opening error (Missed missed) is wrong told = told
unremade limit held head text opening error (Wrong so) is wrong told = (refl, inr (text, error, is, wrong told.0, told.1))

-- what is told of what was cut off
pub cut_none : (held head missing : List ℕ) (opening : Store) (names : List (List ℕ)) (was : BookView) → head ≡ head_for opening names → head ≡ held ++ missing
    → was ≡ new_book_view opening → IsCutFrom (length was.history) held (record_front names was) None
cut_none held head missing opening names was head_is parts new = begun_anew missing (ap (record_front names) new ∙ append-nil (head_for opening names)
    ∙ sym head_is ∙ parts) refl

pub cut_from : (n : ℕ) (held front : List ℕ) (kept : ℕ) (cut : Option CutEntry) → take kept held ≡ front → IsCutOf n (take kept held) (drop kept held) cut
    → IsCutFrom n held front cut
cut_from n held front kept cut is off =
    gone_on (drop kept held) (sym (take-append-drop kept held) ∙ ap (λ (l : List ℕ). l ++ drop kept held) is)
    (subst (λ (l : List ℕ). IsCutOf n l (drop kept held) cut) is off)

-- what stays of it is what the record tells of the book
pub resumed_front : (limit : ℕ) (held head : List ℕ) (opening : Store) (names : List (List ℕ)) (was : BookView) (kept : ℕ) (made : List ℕ)
    → head ≡ head_for opening names → was.opening ≡ opening → (r : IsResumed limit held head opening was.history) → kept ≡ length held - length r.rest
    → made ≡ [] → take kept held ++ made ≡ record_front names was
resumed_front limit held head opening names was kept made head_is on r kept_is none =
    let entries = texts 0 was.history in
    let whole : held ≡ (head ++ entries) ++ r.rest = r.held_is ∙ ap (λ (x : List ℕ). head ++ x) r.remade.replayed.front
    ∙ sym (append_assoc head entries r.rest) in
    let count : kept ≡ length (head ++ entries) = omega (arith, kept_is, ap length whole, length-append (head ++ entries) r.rest) in
    let cut : take kept held ≡ head ++ entries = ap (take kept) whole ∙ take_at (head ++ entries) r.rest kept (sym count) in
    ap (λ (x : List ℕ). take kept held ++ x) none ∙ append-nil (take kept held) ∙ cut ∙ ap (λ (x : List ℕ). x ++ entries) head_is
    ∙ ap (λ (o : Store). head_for o names ++ entries) (sym on)
