-- What is first wrong, of jobs whose files are all that they ask for.
use Rattle.std.proofs.Common.{◌≡◌, ℕ, Bool, List, Option, Some, None, inl, inr, refl}
use Rattle.batch.proofs.OneReading as batch_reading
use Rattle.batch.specs.ShapeView.{widest}
use Rattle.board_wiring.specs.Boards.{IsBoardOf}
use Rattle.board_wiring.specs.Sources.{of_wiring}
use Rattle.board_wiring.specs.declared.board.Board.{Board}
use Rattle.command_words.specs.Jobs.{Files}
use Rattle.command_words.specs.declared.jobs.TextJob.{TextJob}
use Rattle.command_words.specs.declared.jobs.TextJob.TheVariants.{Apply, Check, Direct, Draw, Orders, Plan, Prices, Replay, Run as RunJob, Switch as SwitchJob}
use Rattle.exchange.proofs.EndStatuses.{done_is}
use Rattle.exchange.proofs.PromisedReplays.{unreplayed_so}
use Rattle.exchange.specs.Promises.{IsRefusalLine, IsFirstWrongIn, IsFirstWrongOn, lacking, texts_wrong, wiring_wrong}
use Rattle.exchange.specs.Responses.{IsTextAnswer, source_in, text_in}
use Rattle.move_directions.proofs.OneReading as moves_reading
use Rattle.plan_answers.proofs.OneSource.{from_right}
use Rattle.plan_answers.specs.Answers as answers
use Rattle.plan_answers.specs.Directing as directing
use Rattle.plan_answers.specs.Directing.{of_moves}
use Rattle.plan_answers.specs.Drawings.{drawn, undrawn}
use Rattle.plan_answers.specs.Pricing.{priced, unpriced}
use Rattle.plan_answers.specs.Refusals.{Printed}
use Rattle.plan_answers.specs.declared.limits.TheConstants.{REFUSED}
use Rattle.plan_answers.specs.declared.source.ScheduleSource.{ScheduleSource}
use Rattle.rack_answers.specs.Answers.{ran, run_refused}
use Rattle.rack_answers.specs.Orders as ordering
use Rattle.rack_answers.specs.Switching as switching
use Rattle.rack_answers.specs.Switching.{IsOn, IsSwitched}
use Rattle.refusals.specs.Sources.{of_batch}
use Rattle.refusals.specs.declared.refusal.Refusal.TheVariants.{Overlap}

-- ---- what is first wrong

switched : (from : ScheduleSource (List ℕ)) (has_two : Bool) (text : List ℕ) (wiring : Option (List ℕ)) (board : Option Board) (printed : Printed)
    → IsBoardOf wiring board → IsSwitched from has_two board text printed → printed.status ≡ REFUSED → IsRefusalLine (IsFirstWrongOn from text wiring 0)
    printed.text
switched from has_two text wiring board printed of (switching.switched filled transfers settings is ways fills tells) status =
    absurd (done_is printed.status tells.1 status)
switched from has_two text wiring board printed of (switching.lacking refusal lacks line) status = (refusal, lacking board of lacks, line.line)
switched from has_two text wiring board printed of (switching.wrong refusal wrong has line) status = (refusal, texts_wrong board of wrong has, line.line)

switched_on : (from : ScheduleSource (List ℕ)) (has_two : Bool) (text : List ℕ) (wiring : Option (List ℕ)) (printed : Printed)
    → IsOn (λ board. IsSwitched from has_two board text) wiring printed → printed.status ≡ REFUSED → IsRefusalLine (IsFirstWrongOn from text wiring 0)
    printed.text
switched_on from has_two text None printed is status = switched from has_two text None None printed tt is status
switched_on from has_two text (Some wiring) printed (switching.wired board denotes is) status = switched from has_two text (Some wiring) (Some board) printed
    denotes is status
switched_on from has_two text (Some wiring) printed (switching.miswired fault first line) status = (of_wiring fault, wiring_wrong fault first refl, line.line)

pub wrong_of : (job : TextJob) (texts : Files (List ℕ)) (printed : Printed) → IsTextAnswer job texts printed → printed.status ≡ REFUSED
    → IsRefusalLine (IsFirstWrongIn job texts) printed.text
wrong_of (Plan file planning workers) texts printed (answers.planned batch denotes plan done) status = absurd (done_is printed.status done status)
wrong_of (Plan file planning workers) texts printed (answers.refused fault first line) status = (of_batch fault, (fault, first, refl), line.line)
wrong_of (Check batch schedule) texts printed (answers.shortest count shown text done) status = absurd (done_is printed.status done status)
wrong_of (Check batch schedule) texts printed (answers.refused refusal wrong line) status = (refusal, wrong, line.line)
wrong_of (Draw batch schedule chosen) texts printed (least, drawn d so_many done) status = absurd (done_is printed.status done status)
wrong_of (Draw batch schedule chosen) texts printed (least, undrawn refusal wrong line) status = (refusal, wrong, line.line)
wrong_of (Prices batch schedule) texts printed (priced transfers settings read says done) status = absurd (done_is printed.status done status)
wrong_of (Prices batch schedule) texts printed (unpriced refusal wrong line) status = (refusal, wrong, line.line)
wrong_of (SwitchJob batch scheduled wiring has_two workers) texts printed is status = switched_on (source_in scheduled (text_in texts.schedule)) has_two
    (text_in texts.list) texts.wiring printed is status
wrong_of (Orders batch scheduled only workers) texts printed (ordering.ordered transfers settings is (ordering.told apart told done)) status =
    absurd (done_is printed.status done status)
wrong_of (Orders batch scheduled only workers) texts printed (ordering.ordered transfers settings is (ordering.overlap i j first line)) status = (
  Overlap i j,
  inr (
    transfers,
    from_right (source_in scheduled (text_in texts.schedule)) widest (text_in texts.list) transfers settings is,
    (i, j, first, refl),
  ),
  line.line,
)
wrong_of (Orders batch scheduled only workers) texts printed (ordering.wrong refusal wrong line) status = (refusal, inl wrong, line.line)
wrong_of (Direct moves) texts printed (directing.directed list reads says done) status = absurd (done_is printed.status done status)
wrong_of (Direct moves) texts printed (directing.refused fault first line) status = (of_moves fault, (fault, first, refl), line.line)
wrong_of (Apply shape batch image workers) texts printed (ran r done) status = absurd (done_is printed.status done status)
wrong_of (Apply shape batch image workers) texts printed (run_refused refusal wrong line) status = (refusal, wrong, line.line)
wrong_of (RunJob shape batch scheduled image workers) texts printed (ran r done) status = absurd (done_is printed.status done status)
wrong_of (RunJob shape batch scheduled image workers) texts printed (run_refused refusal wrong line) status = (refusal, wrong, line.line)
wrong_of (Replay shape recorded image first) texts printed (told, torn, is) status = unreplayed_so shape (text_in texts.list) texts.image first printed told
    torn status is
