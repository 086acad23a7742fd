-- A history of the book in which no run stopped, as it is seen.
use Rattle.std.proofs.Common.{ℕ, List, [], ◌∷◌, All, Option, Some, None, refl}
use Rattle.std.specs.Prelude.{option_map}
use Rattle.std.proofs.lemmas.List.Elements.{All-head, All-tail, All-weaker}
use Rattle.schedule_certificate.specs.Plans.{Plan}
use Rattle.setting_runner.specs.declared.outcome.RunRefusal.TheVariants as run_refusal
use Rattle.batch_book.specs.declared.call.Call.{Call}
use Rattle.batch_book.specs.declared.call.Call.TheVariants.{Run, Settle}
use Rattle.batch_book.specs.declared.entry.Entry.{Entry}
use Rattle.batch_book.specs.declared.reply.Reply.{Reply}
use Rattle.batch_book.specs.declared.reply.Reply.TheVariants.{Ran, RunRefused, Stopped}
use Rattle.batch_book.specs.declared.stored_batch.StoredBatch.{StoredBatch}
use Rattle.batch_book.specs.declared.stored_batch.BatchStage.{BatchStage}
use Rattle.batch_book.specs.declared.stored_batch.BatchStage.TheVariants as stage
use Rattle.batch_book.specs.History.{AreUnstopped, IsReplay}
use Rattle.batch_book.specs.Machine.{Machine, IsMachineStep, IsRunStep}
use Rattle.batch_book.specs.Machine.{IsRunAt as MayRunAt, IsRunOf as MayRun}
use Rattle.batch_book.specs.Replies.{IsUnstopped}
use Rattle.book_record.specs.RecordText.{CanTell}
use Rattle.record_replay.specs.Steps.{AreSeenSteps, IsSeenRunAt, IsSeenRun, IsSeenStep}

run_seen : (m : Machine) (id : ℕ) (plan : Plan) (r : Reply) (n : Machine) → IsUnstopped r → MayRun m id plan r n → IsSeenRun m id plan r n
run_seen m id plan (RunRefused (run_refusal.Overlap i j)) n went is = is
run_seen m id plan (RunRefused run_refusal.Shape) n went is = is
run_seen m id plan (Ran run settings words) n went is = (is.0.can_move, is.0.number, is.1.all_settings, is.1.all_moved, is.1.placed, is.2)
run_seen m id plan (Stopped run setting cause moved) n went is = absurd (went run setting cause moved refl)
run_seen m id plan r n went is = absurd is

stage_seen : (m : Machine) (id : ℕ) (s : BatchStage) (r : Reply) (n : Machine) → IsUnstopped r → MayRunAt m id s r n → IsSeenRunAt m id (Some s) r n
stage_seen m id (stage.Planned plan) r n went is = run_seen m id plan r n went is
stage_seen m id s r n went is = is

batch_seen : (m : Machine) (id : ℕ) (o : Option StoredBatch) (r : Reply) (n : Machine) → IsUnstopped r → IsRunStep m id o r n
    → IsSeenRunAt m id (option_map (λ h. h.stage) o) r n
batch_seen m id None r n went is = is
batch_seen m id (Some h) r n went is = stage_seen m id h.stage r n went is

pub step_seen : (m : Machine) (session : ℕ) (c : Call) (r : Reply) (n : Machine) → IsUnstopped r → IsMachineStep m session c r n → IsSeenStep m session c r n
step_seen m session (Settle id plan) r n went is = (is.0.shortest, is.1)
step_seen m session (Run id) r n went is = batch_seen m id _ r n went is
step_seen m session c r n went is = is

pub steps_seen : (m : Machine) (es : List Entry) (n : Machine) → AreUnstopped es → IsReplay m es n → AreSeenSteps m es n
steps_seen m [] n went is = is
steps_seen m (e ∷ es) n went is =
    let each = λ (x : Entry). IsUnstopped x.reply in (
      is.0,
      step_seen m e.session e.call e.reply is.0 (All-head each e es went) is.1,
      steps_seen is.0 es n (All-tail each e es went) is.2,
    )

-- so are entries that a record can hold
pub tell_unstopped : (es : List Entry) → All CanTell es → AreUnstopped es
tell_unstopped es can = All-weaker CanTell (λ (e : Entry). IsUnstopped e.reply) (λ e one. one.reply.0) es can
