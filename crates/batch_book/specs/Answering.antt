-- Which replies each call may have, and what these may tell. They are this project's choice.
--
--   Submit    Accepted                      BookFull
--   Fetch     Fetched                       Unknown
--   Settle    Settled                       Unknown, Stranger, Already
--   Run       Ran, Stopped, RunRefused      Unknown, Unplanned, Already
--   Show      Shown                         Unknown
--   Discard   Discarded                     Unknown
--   Peek      Word                          Memory
--   Poke      Poked                         Memory
use Rattle.std.specs.Prelude.{◌≡◌, ◌≢◌, ℕ, ◌*◌, ◌<◌, ◌≤◌, length}
use Rattle.batch.specs.declared.limits.TheConstants.{MAX_TRANSFERS, MAX_WORDS}
use Rattle.setting_runner.specs.declared.outcome.RunRefusal.TheVariants as run_refusal
use Rattle.batch_book.specs.declared.call.Call.{Call}
use Rattle.batch_book.specs.declared.call.Call.TheVariants.{Submit, Fetch, Settle, Run, Show}
use Rattle.batch_book.specs.declared.call.Call.TheVariants.{Discard, Peek, Poke}
use Rattle.batch_book.specs.declared.reply.Reply.{Reply}
use Rattle.batch_book.specs.declared.reply.Reply.TheVariants.{Accepted, Fetched, Settled, Ran}
use Rattle.batch_book.specs.declared.reply.Reply.TheVariants.{Stopped, RunRefused, Shown, Discarded}
use Rattle.batch_book.specs.declared.reply.Reply.TheVariants.{Word, Poked, Refused}
use Rattle.batch_book.specs.declared.refusal.BookRefusal.{BookRefusal}
use Rattle.batch_book.specs.declared.refusal.BookRefusal.TheVariants.{HistoryFull, BookFull}
use Rattle.batch_book.specs.declared.refusal.BookRefusal.TheVariants.{Unknown, Unplanned, Stranger}
use Rattle.batch_book.specs.declared.refusal.BookRefusal.TheVariants.{Already, Memory, NoMemory}

-- why a call may be refused; each for a full history and for want of memory
abbrev pub IsRefusalOf : Call → BookRefusal → Type 0
IsRefusalOf call HistoryFull = Unit {0}
IsRefusalOf call NoMemory = Unit {0}
IsRefusalOf (Submit batch) BookFull = Unit {0}
IsRefusalOf (Fetch id) Unknown = Unit {0}
IsRefusalOf (Settle id plan) Unknown = Unit {0}
IsRefusalOf (Settle id plan) Stranger = Unit {0}
IsRefusalOf (Settle id plan) Already = Unit {0}
IsRefusalOf (Run id) Unknown = Unit {0}
IsRefusalOf (Run id) Unplanned = Unit {0}
IsRefusalOf (Run id) Already = Unit {0}
IsRefusalOf (Show id) Unknown = Unit {0}
IsRefusalOf (Discard id) Unknown = Unit {0}
IsRefusalOf (Peek «module» address) (Memory fault) = Unit {0}
IsRefusalOf (Poke «module» address word) (Memory fault) = Unit {0}
IsRefusalOf call why = ⊥

-- a run that completed has a number, not too many settings, and moved not too many words
pub record IsRanReply (run settings words : ℕ) : Type 0 where
  pub number : 1 ≤ run
  pub few_settings : settings ≤ MAX_TRANSFERS
  pub few_words : words ≤ MAX_TRANSFERS * MAX_WORDS

-- a run that stopped has a number, and stopped in one of not too many settings
pub record IsStoppedReply (run setting : ℕ) : Type 0 where
  pub number : 1 ≤ run
  pub few_settings : setting < MAX_TRANSFERS

-- the reply is one of its call's
abbrev pub IsReplyTo : Call → Reply → Type 0
IsReplyTo call (Refused why) = IsRefusalOf call why
IsReplyTo (Submit batch) (Accepted id) = 1 ≤ id
IsReplyTo (Fetch id) (Fetched batch) = Unit {0}
IsReplyTo (Settle id plan) (Settled settings) = settings ≡ length plan.settings
IsReplyTo (Run id) (Ran run settings words) = IsRanReply run settings words
IsReplyTo (Run id) (Stopped run setting cause moved) = IsStoppedReply run setting
IsReplyTo (Run id) (RunRefused why) = why ≢ run_refusal.NoMemory
IsReplyTo (Show id) (Shown transfers state) = Unit {0}
IsReplyTo (Discard id) Discarded = Unit {0}
IsReplyTo (Peek «module» address) (Word word) = Unit {0}
IsReplyTo (Poke «module» address word) Poked = Unit {0}
IsReplyTo call reply = ⊥
