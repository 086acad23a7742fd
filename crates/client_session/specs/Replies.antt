-- The reply lines. The texts are this project's choice.
use Rattle.std.specs.Prelude.{ℕ, List, [], ◌∷◌, ◌++◌, codes, flat_map}
use Rattle.std.specs.Fmt.{decimal}
use Rattle.batch.specs.Text.{line_feed}
use Rattle.setting_runner.specs.LineBits.{bits_of}
use Rattle.setting_runner.specs.declared.outcome.StopCause.{StopCause}
use Rattle.setting_runner.specs.declared.outcome.StopCause.TheVariants.{Port, SwitchDisagrees, Wire}
use Rattle.batch_book.specs.declared.stored_batch.BatchState.{BatchState}
use Rattle.batch_book.specs.declared.stored_batch.BatchState.TheVariants as state
use Rattle.batch_book.specs.declared.reply.Reply.{Reply}
use Rattle.batch_book.specs.declared.reply.Reply.TheVariants.{Accepted, Fetched, Settled, Ran}
use Rattle.batch_book.specs.declared.reply.Reply.TheVariants.{Stopped, RunRefused, Shown, Discarded}
use Rattle.batch_book.specs.declared.reply.Reply.TheVariants.{Word, Poked, Refused}
use Rattle.batch_book.specs.declared.reading.Reading.{Reading}
use Rattle.line_words.specs.HexWords.{hex8}
use Rattle.refusals.specs.Refusals.{refusal_line}
use Rattle.client_session.specs.Sources.{of_book, of_run}

abbrev pub cause_words : StopCause → List ℕ
cause_words Port = codes "port"
cause_words (SwitchDisagrees output) = codes "switch " ++ decimal output
cause_words (Wire t) = codes "wire " ++ decimal t

abbrev pub state_words : BatchState → List ℕ
state_words state.Waiting = codes "waiting"
state_words state.Planned = codes "planned"
state_words state.Ran = codes "ran"
state_words state.Stopped = codes "stopped"

-- ` t:w`: a transfer, and how many words it has moved
abbrev pub moved_words : (ℕ × ℕ) → List ℕ
moved_words m = codes " " ++ decimal m.0 ++ codes ":" ++ decimal m.1

-- `ran ID run R settings S words X bits Y`
abbrev pub ran_words : ℕ → ℕ → ℕ → ℕ → List ℕ
ran_words id run settings words =
    codes "ran " ++ decimal id ++ codes " run " ++ decimal run ++ codes " settings "
    ++ decimal settings ++ codes " words " ++ decimal words
    ++ codes " bits " ++ decimal (bits_of words)

-- `stopped ID run R setting S CAUSE moved`, and the transfers of that setting
abbrev pub stopped_words : ℕ → ℕ → ℕ → StopCause → List (ℕ × ℕ) → List ℕ
stopped_words id run setting cause moved =
    codes "stopped " ++ decimal id ++ codes " run " ++ decimal run ++ codes " setting "
    ++ decimal setting ++ codes " " ++ cause_words cause
    ++ codes " moved" ++ flat_map moved_words moved

-- the words, and a line feed
abbrev pub with_feed : List ℕ → List ℕ
with_feed words = words ++ line_feed ∷ []

-- what a reply says to a command that names this batch
abbrev pub reply_line : ℕ → Reply → List ℕ
reply_line id (Accepted new) = with_feed (codes "accepted " ++ decimal new)
reply_line id (Fetched batch) = with_feed []
reply_line id (Settled settings) =
    with_feed (codes "planned " ++ decimal id ++ codes " settings " ++ decimal settings)
reply_line id (Ran run settings words) = with_feed (ran_words id run settings words)
reply_line id (Stopped run setting cause moved) =
    with_feed (stopped_words id run setting cause moved)
reply_line id (RunRefused why) = refusal_line (of_run why)
reply_line id (Shown transfers s) =
    with_feed (codes "batch " ++ decimal id ++ codes " transfers " ++ decimal transfers
    ++ codes " " ++ state_words s)
reply_line id Discarded = with_feed (codes "dropped " ++ decimal id)
reply_line id (Word word) = with_feed (codes "word " ++ hex8 word)
reply_line id Poked = with_feed (codes "poked")
reply_line id (Refused why) = refusal_line (of_book why)

abbrev pub progress_line : Reading → List ℕ
progress_line r =
    with_feed (codes "progress run " ++ decimal r.run ++ codes " done " ++ decimal r.done)
