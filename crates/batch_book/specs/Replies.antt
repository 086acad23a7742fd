-- Replies: which of them the history has, and what of a run they tell.
use Rattle.std.specs.Prelude.{◌≡◌, ◌≢◌, ℕ, Bool, true, false, IsTrue, List, Result, Ok, Err}
use Rattle.crossbar.specs.declared.port.ConfigPort.{Ghosts}
use Rattle.setting_runner.specs.declared.outcome.Outcome.{Outcome}
use Rattle.setting_runner.specs.declared.outcome.Outcome.TheVariants as outcome
use Rattle.setting_runner.specs.declared.outcome.RunRefusal.TheVariants as run_refusal
use Rattle.setting_runner.specs.declared.outcome.StopCause.{StopCause}
use Rattle.batch_book.specs.declared.reply.Reply.{Reply}
use Rattle.batch_book.specs.declared.reply.Reply.TheVariants.{Ran, Stopped, Refused}
use Rattle.batch_book.specs.declared.refusal.BookRefusal.TheVariants.{HistoryFull, NoMemory}

-- the history has all replies but these two
abbrev pub is_logged : Reply → Bool
is_logged (Refused HistoryFull) = false
is_logged (Refused NoMemory) = false
is_logged reply = true

-- the reply tells of no run that stopped
abbrev pub IsUnstopped : Reply → Type 0
IsUnstopped reply =
    (run setting : ℕ) (cause : StopCause) (moved : List (ℕ × ℕ)) →
    reply ≢ Stopped run setting cause moved

-- Ports of this kind are honest and never fail, and wires of this kind never fail. So no run over
-- them stops.
pub record NeverFail {P W : Type 0} (seen : Ghosts P) (sure : W → ℕ → Type 0) : Type 0 where
  pub unfailed : (before after : P) → seen.failures after ≡ seen.failures before
  pub honest : (port : P) → IsTrue (seen.honest port)
  pub sure_wires : (wires : W) (transfer : ℕ) → sure wires transfer

-- how the run ended of which the reply tells; where it tells of none, as if want of memory had
-- refused it
abbrev pub outcome_of : Reply → Outcome
outcome_of (Ran run settings words) = outcome.Completed settings words
outcome_of (Stopped run setting cause moved) = outcome.Stopped setting cause moved
outcome_of reply = outcome.Refused run_refusal.NoMemory

-- the same where there may have been no memory for a reply
abbrev pub outcome_in : {E : Type 0} → Result Reply E → Outcome
outcome_in (Ok reply) = outcome_of reply
outcome_in (Err e) = outcome.Refused run_refusal.NoMemory

-- the same where something stands before the reply
abbrev pub outcome_beside : {T E : Type 0} → Result (T × Reply) E → Outcome
outcome_beside (Ok answered) = outcome_of answered.1
outcome_beside (Err e) = outcome.Refused run_refusal.NoMemory

-- no run went, whether there was a reply or not
abbrev pub TellsNoRun : Outcome → Type 0
TellsNoRun o = o ≡ outcome.Refused run_refusal.NoMemory
