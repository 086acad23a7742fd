-- One entry of a record, made again.
use Rattle.std.proofs.Common.{◌≡◌, ℕ, ◌+◌, ◌<◌, List, [], ◌∷◌, ◌++◌, ◌-◌, drop, length, All, true, false, Bool, Option, None, Some, refl, sym, ap, ◌∙◌, append_assoc, append-nil, subst, arith}
use Rattle.std.specs.Prelude.{if◌then◌else◌, option_map, unwrap_or}
use Rattle.std.proofs.lemmas.Bool.{false≢true}
use Rattle.std.proofs.lemmas.List.{drop_at, length-append}
use Rattle.std.proofs.lemmas.List.Elements.{All-push}
use Rattle.record_replay.proofs.Steps.{steps_seen, tell_unstopped}
use Rattle.record_replay.specs.Steps.{AreSeenSteps}
use Rattle.batch.specs.Equal.{same_transfers}
use Rattle.batch.proofs.Equal.{same_transfers-Decides}
use Rattle.module_memory.specs.Store.{Store}
use Rattle.schedule_certificate.specs.Plans.{Plan}
use Rattle.batch_book.specs.declared.call.Call.{Call}
use Rattle.batch_book.specs.declared.call.Call.TheVariants.{Settle}
use Rattle.batch_book.specs.declared.stored_batch.StoredBatch.{StoredBatch}
use Rattle.batch_book.specs.declared.stored_batch.BatchStage.{BatchStage}
use Rattle.batch_book.specs.declared.stored_batch.BatchStage.TheVariants as stage
use Rattle.batch_book.specs.declared.refusal.BookRefusal.TheVariants.{Stranger}
use Rattle.batch_book.specs.declared.reply.Reply.{Reply}
use Rattle.batch_book.specs.declared.reply.Reply.TheVariants.{Refused}
use Rattle.batch_book.specs.Answering.{IsReplyTo}
use Rattle.batch_book.specs.Machine.{Machine, batch_of, opened, settle, settle_at, refuse, IsMachineStep}
use Rattle.batch_book.specs.History.{BookView, IsGrown, IsReplay, entry}
use Rattle.batch.specs.Text.{IsNumber, number, space}
use Rattle.batch_book.specs.Told.{PlanlessCall}
use Rattle.batch_book.specs.Told.{told}
use Rattle.book_record.specs.RecordText.{id_of, call_text, reply_text, entry_text, texts, CanSay, CanBeReplied, CanTell}
use Rattle.record_replay.specs.declared.fault.RecordError.{RecordError}
use Rattle.book_record.proofs.Streams.{texts_append}
use Rattle.book_record.specs.Fronts.{IsSummed, last_lines}
use Rattle.book_record.specs.Sums.{sum_at, sum_line, summed}
use Rattle.record_replay.specs.declared.fault.RecordFault.{RecordFault}
use Rattle.record_replay.specs.Replays.{AreFewer, IsPlanFor, HasOwnPlanIn, GoesOnBy, IsOtherReply, IsReplayed, IsRecordFault, IsRecordError, IsWrongAt, damaged, no_call, other_reply, more_after}

-- ---- a plan of its own batch is no stranger's

settle_at_no_stranger : (m : Machine) (id : ℕ) (plan : Plan) (s : BatchStage) → (settle_at m id plan s).0 ≡ Refused Stranger → ⊥
settle_at_no_stranger m id plan stage.Waiting e = absurd cc
settle_at_no_stranger m id plan s e = absurd cc

settle_if_no_stranger : (m : Machine) (id : ℕ) (plan : Plan) (h : StoredBatch) (b : Bool) → same_transfers h.batch plan.batch ≡ b → plan.batch ≡ h.batch
    → (if b then settle_at m id plan h.stage else refuse m Stranger).0 ≡ Refused Stranger → ⊥
settle_if_no_stranger m id plan h true same own e = settle_at_no_stranger m id plan h.stage e
settle_if_no_stranger m id plan h false same own e = false≢true (sym same ∙ (same_transfers-Decides h.batch plan.batch).1 (sym own))

settle_no_stranger : (m : Machine) (id : ℕ) (plan : Plan) (o : Option StoredBatch) → IsPlanFor plan o → (settle m id plan o).0 ≡ Refused Stranger → ⊥
settle_no_stranger m id plan None own e = absurd cc
settle_no_stranger m id plan (Some h) own e = settle_if_no_stranger m id plan h (same_transfers h.batch plan.batch) refl own e

pub no_stranger : (m : Machine) (session : ℕ) (c : Call) (n : Machine) → HasOwnPlanIn m session c → IsReplyTo c (Refused Stranger)
    → IsMachineStep m session c (Refused Stranger) n → ⊥
no_stranger m session (Settle id plan) n own answers step = settle_no_stranger m id plan (batch_of m session id) own (sym step.1.0)
no_stranger m session c n own answers step = answers

-- ---- what was made again

-- the lines are those of the entry that comes
pub came_as : (limit : ℕ) (old new : BookView) (body replied : List ℕ) (session : ℕ) (tc : PlanlessCall) (c : Call) (r : Reply) → told c ≡ tc → IsNumber session
    → session < limit → CanSay tc → CanBeReplied r → IsGrown old session c r new
    → body ≡ number session space ++ (call_text tc ++ replied) → replied ≡ reply_text (id_of tc) r → GoesOnBy limit old new body
came_as limit old new body replied session tc c r is fits below can may grown asks answers = record {
  entry = entry session c r;
  can = record { session = fits; call = subst CanSay (sym is) can; reply = may };
  below = below;
  grown = grown;
  body_is =
      asks ∙ ap (λ (t : List ℕ). number session space ++ (call_text tc ++ t)) answers
      ∙ ap (λ (x : PlanlessCall). number session space ++ (call_text x ++ reply_text (id_of x) r)) (sym is);
}

-- ---- how far a record was made again

pub record Going (limit : ℕ) (text : List ℕ) (opening : Store) (k : ℕ) (book : BookView) (rest : List ℕ) : Type 0 where
  pub opened_so : book.opening ≡ opening
  pub counted : length book.history ≡ k
  pub each : All CanTell book.history
  pub sessions : All (λ e. e.session < limit) book.history
  pub front : text ≡ texts 0 book.history ++ rest

pub going_on : (limit : ℕ) (text : List ℕ) (opening : Store) (k : ℕ) (old new : BookView) (rest body after : List ℕ) → Going limit text opening k old rest
    → IsSummed k rest body after → GoesOnBy limit old new body → new.opening ≡ old.opening → Going limit text opening (k + 1) new after
going_on limit text opening k old new rest body after had summed_so by is =
    let e = by.entry in
    let f = by.grown.history in
    let here : rest ≡ entry_text k e ++ after = summed_so.front ∙ ap (λ (b : List ℕ). summed k b ++ after) by.body_is in
    let count : 0 + length old.history ≡ k = omega (arith, had.counted) in
    let more : texts 0 new.history ≡ texts 0 old.history ++ entry_text k e =
    ap (texts 0) f ∙ texts_append 0 old.history (e ∷ []) ∙ ap (λ (n : ℕ). texts 0 old.history ++ texts n (e ∷ [])) count
    ∙ ap (λ (l : List ℕ). texts 0 old.history ++ l) (append-nil (entry_text k e)) in
    record {
      opened_so = is ∙ had.opened_so;
      counted = ap length f ∙ length-append old.history (e ∷ []) ∙ omega (arith, had.counted);
      each = subst (All CanTell) (sym f) (All-push CanTell old.history e had.each by.can);
      sessions = subst (All (λ x. x.session < limit)) (sym f) (All-push (λ x. x.session < limit) old.history e had.sessions by.below);
      front = had.front ∙ ap (λ (l : List ℕ). texts 0 old.history ++ l) here ∙ sym (append_assoc (texts 0 old.history) (entry_text k e) after)
          ∙ ap (λ (l : List ℕ). l ++ after) (sym more);
    }

-- the book's history is what was made again
pub replayed_so : (limit : ℕ) (text : List ℕ) (opening : Store) (k : ℕ) (book : BookView) (rest : List ℕ) → Going limit text opening k book rest
    → IsReplay (opened book.opening) book.history book.machine → IsReplayed limit text opening book.history book.machine rest
replayed_so limit text opening k book rest had led = record {
  front = had.front;
  each = had.each;
  sessions = had.sessions;
  steps = subst (λ (s : Store). AreSeenSteps (opened s) book.history book.machine) had.opened_so
      (steps_seen (opened book.opening) book.history book.machine (tell_unstopped book.history had.each) led);
}

-- where the loop goes on, so many are fewer than are wanted
fewer_so_far : (n k wanted most : ℕ) (first : Option ℕ) → n ≡ k → wanted ≡ unwrap_or first most → k < wanted → AreFewer n first
fewer_so_far n k wanted most None same is less = tt
fewer_so_far n k wanted most (Some all) same is less = let e : wanted ≡ all = is in omega (arith, same, e, less)

-- ---- where it is wrong

-- where a rest stands in a text
rest_at : (text front rest : List ℕ) → text ≡ front ++ rest → drop (length text - length rest) text ≡ rest
rest_at text front rest is =
    ap (drop (length text - length rest)) is ∙ drop_at front rest (length text - length rest) (omega (arith, ap length is, length-append front rest))

asked_form : (n c r s a : List ℕ) → ((n ++ (c ++ r)) ++ s) ++ a ≡ (n ++ c) ++ (r ++ (s ++ a))
asked_form n c r s a = simp append_assoc

-- what is wrong stands within the text that goes on there
wrong_within : (limit n : ℕ) (m : Machine) (last : List ℕ) (f : RecordFault) (rest : List ℕ) (due : Option (List ℕ)) → IsWrongAt limit n m last f rest due
    → (front : List ℕ) × (last ≡ front ++ rest)
wrong_within limit n m last f rest due (damaged bad so at none) = ([], sym at)
wrong_within limit n m last f rest due (no_call body more s none other so at no_due) = ([], sym at)
wrong_within limit n m last f rest due (other_reply body more replied line s o so at due_is) =
    let session = number o.session space in
    let asked = call_text (told o.call) in
    let tail = sum_line (sum_at n body) in (
      session ++ asked,
      s.front ∙ ap (λ (b : List ℕ). (b ++ tail) ++ more) o.asks ∙ asked_form session asked replied tail more
          ∙ ap (λ (l : List ℕ). (session ++ asked) ++ l) (sym at),
    )
wrong_within limit n m last f rest due (more_after is some so none) = (last_lines n, is)

-- what is wrong after what was made again so far, as an error says it
pub said_wrong : (limit : ℕ) (text : List ℕ) (opening : Store) (first : Option ℕ) (k wanted most : ℕ) (book : BookView) (last rest : List ℕ)
    (due : Option (List ℕ)) (error : RecordError) → Going limit text opening k book last → IsReplay (opened book.opening) book.history book.machine
    → wanted ≡ unwrap_or first most → k < wanted → IsWrongAt limit k book.machine last error.fault rest due → error.offset ≡ length text - length rest
    → option_map (λ line. line.items) error.due ≡ due → IsRecordError limit text opening first error
said_wrong limit text opening first k wanted most book last rest due error had led is less wrong at says =
    let within = wrong_within limit k book.machine last error.fault rest due wrong in
    let made = texts 0 book.history in
    let whole : text ≡ (made ++ within.0) ++ rest = had.front ∙ ap (λ (l : List ℕ). made ++ l) within.1 ∙ sym (append_assoc made within.0 rest) in
    let here : drop error.offset text ≡ rest = ap (λ (n : ℕ). drop n text) at ∙ rest_at text (made ++ within.0) rest whole in
    let fault : IsRecordFault limit text opening first error.fault rest due =
    record {
      es = book.history;
      end = book.machine;
      last = last;
      replayed = replayed_so limit text opening k book last had led;
      fewer = fewer_so_far (length book.history) k wanted most first had.counted is less;
      wrong = subst (λ (n : ℕ). IsWrongAt limit n book.machine last error.fault rest due) (sym had.counted) wrong;
    } in
    record {
      within = omega (arith, at);
      wrong =
          subst (λ (r : List ℕ). IsRecordFault limit text opening first error.fault r (option_map (λ line. line.items) error.due)) (sym here)
          (subst (IsRecordFault limit text opening first error.fault rest) (sym says) fault);
    }

-- where another line stands than that of a reply
pub reply_at : (limit n offset : ℕ) (m : Machine) (text front last body after replied line : List ℕ) → text ≡ front ++ last → IsSummed n last body after
    → IsOtherReply limit m body replied line → offset ≡ length text - length last + (length body - length replied)
    → offset ≡ length text - length (replied ++ (sum_line (sum_at n body) ++ after))
reply_at limit n offset m text front last body after replied line is s o at =
    let session = number o.session space in
    let asked = call_text (told o.call) in
    let tail = sum_line (sum_at n body) in
    omega (
      arith,
      at,
      ap length is,
      ap length s.front,
      ap length o.asks,
      length-append front last,
      length-append (body ++ tail) after,
      length-append body tail,
      length-append session (asked ++ replied),
      length-append asked replied,
      length-append replied (tail ++ after),
      length-append tail after,
    )
