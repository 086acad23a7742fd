-- The status of an answer is that of what is done, or that of a refusal.
use Rattle.std.proofs.Common.{◌≡◌, ℕ, Bool, true, false, List, [], Option, Some, None, inl, inr, ◌⊎◌, ap, arith, subst}
use Rattle.batch_book.specs.History.{BookView}
use Rattle.board_wiring.specs.declared.board.Board.{Board}
use Rattle.clap.specs.Words.{Text}
use Rattle.command_words.specs.Jobs.{Files}
use Rattle.command_words.specs.declared.jobs.Job.{Job}
use Rattle.command_words.specs.declared.jobs.Job.TheVariants.{Ports as OverPorts, Sessions, Texts}
use Rattle.command_words.specs.declared.jobs.TextJob.{TextJob}
use Rattle.command_words.specs.declared.jobs.TextJob.TheVariants.{Apply, Check, Direct, Draw, Orders, Plan, Prices, Replay, Run as RunJob, Switch as SwitchJob}
use Rattle.command_words.specs.declared.jobs.PortJob.TheVariants.{C004, Drive}
use Rattle.command_words.specs.declared.jobs.SessionJob.TheVariants.{Host, Serve, Talk}
use Rattle.command_words.specs.declared.jobs.SharedRack.{SharedRack}
use Rattle.drive_answers.specs.Answers as drives
use Rattle.drive_answers.specs.Answers.{IsDriveAnswer}
use Rattle.drive_answers.specs.Endings.{IsEnding}
use Rattle.drive_answers.specs.Ways.{Names, Ways}
use Rattle.exchange.specs.Promises.{HasGivenUp, Run}
use Rattle.exchange.specs.Responses.{Given, IsAnswerTo, IsC004By, IsResponseTo, IsTextAnswer, Named, Response, source_in, text_in}
use Rattle.recorded_sessions.specs.Answers.{IsLiveAnswer, hosting, talking}
use Rattle.named_files.specs.Contents.{Holding}
use Rattle.named_files.specs.Notes.{GivesUp}
use Rattle.plan_answers.specs.Answers as answers
use Rattle.plan_answers.specs.Directing as directing
use Rattle.plan_answers.specs.Drawings.{drawn, undrawn}
use Rattle.plan_answers.specs.Pricing.{priced, unpriced}
use Rattle.plan_answers.specs.Refusals.{Printed}
use Rattle.plan_answers.specs.declared.limits.TheConstants.{DONE, REFUSED}
use Rattle.plan_answers.specs.declared.source.ScheduleSource.{ScheduleSource}
use Rattle.rack_answers.specs.Answers.{ran, run_refused}
use Rattle.rack_answers.specs.Orders as ordering
use Rattle.rack_answers.specs.Switching as switching
use Rattle.rack_answers.specs.Switching.{IsOn, IsSwitched}
use Rattle.record_replay.specs.ReplayAnswers.{led, no_head, other_head, rack_wrong, record_wrong, replayed}
use Rattle.session_answers.specs.Histories.{status_at}
use Rattle.session_answers.specs.HostAnswers.{KnownClients, SessionEnd}
use Rattle.session_answers.specs.Serving.{refused, served}
use Rattle.switch_driver.specs.Hearings.{Hearing}
use Rattle.switch_driver.specs.declared.driving.DriveOutcome.{DriveOutcome}
use Rattle.switch_driver.specs.declared.driving.DriveOutcome.TheVariants.{Completed, Halted, Stopped}
use Rattle.switch_driver.specs.declared.drive_observer.Halt.TheVariants.{Left, Unheard, Untold}

pub never_done : (status : ℕ) → status ≡ REFUSED → status ≡ DONE → ⊥
never_done status is done = omega (arith, is, done)

pub done_is : (status : ℕ) → status ≡ DONE → status ≡ REFUSED → ⊥
done_is status done is = never_done status is done

-- there was no answer
pub gave_up : (run : Run) (end : Printed) → GivesUp end → run.prints end.text → HasGivenUp run
gave_up run end (inl is) prints = inr (subst (λ (p : Printed). run.prints p.text) is prints)
gave_up run end (inr is) prints = inl (subst (λ (p : Printed). run.prints p.text) is prints)

pub given_up : (end : Printed) → GivesUp end → end.status ≡ REFUSED
given_up end (inl is) = ap (λ (p : Printed). p.status) is
given_up end (inr is) = ap (λ (p : Printed). p.status) is

abbrev pub IsEither : ℕ → Type 0
IsEither status = (status ≡ DONE) ⊎ (status ≡ REFUSED)

switched : (from : ScheduleSource (List ℕ)) (has_two : Bool) (text : List ℕ) (board : Option Board) (printed : Printed) → IsSwitched from has_two board text
    printed → IsEither printed.status
switched from has_two text board printed (switching.switched filled transfers settings is ways fills tells) = inl tells.1
switched from has_two text board printed (switching.lacking refusal lacks line) = inr line.status
switched from has_two text board printed (switching.wrong refusal wrong has line) = inr line.status

switched_on : (from : ScheduleSource (List ℕ)) (has_two : Bool) (text : List ℕ) (wiring : Option (List ℕ)) (printed : Printed)
    → IsOn (λ board. IsSwitched from has_two board text) wiring printed → IsEither printed.status
switched_on from has_two text None printed is = switched from has_two text None printed is
switched_on from has_two text (Some wiring) printed (switching.wired board denotes is) = switched from has_two text (Some board) printed is
switched_on from has_two text (Some wiring) printed (switching.miswired fault first line) = inr line.status

pub of_text : (job : TextJob) (texts : Files (List ℕ)) (printed : Printed) → IsTextAnswer job texts printed → IsEither printed.status
of_text (Plan file planning workers) texts printed (answers.planned batch denotes plan done) = inl done
of_text (Plan file planning workers) texts printed (answers.refused fault first line) = inr line.status
of_text (Check batch schedule) texts printed (answers.shortest count shown text done) = inl done
of_text (Check batch schedule) texts printed (answers.refused refusal wrong line) = inr line.status
of_text (Draw batch schedule chosen) texts printed (least, drawn d so_many done) = inl done
of_text (Draw batch schedule chosen) texts printed (least, undrawn refusal wrong line) = inr line.status
of_text (Prices batch schedule) texts printed (priced transfers settings read says done) = inl done
of_text (Prices batch schedule) texts printed (unpriced refusal wrong line) = inr line.status
of_text (SwitchJob batch scheduled wiring has_two workers) texts printed is = switched_on (source_in scheduled (text_in texts.schedule)) has_two
    (text_in texts.list) texts.wiring printed is
of_text (Orders batch scheduled only workers) texts printed (ordering.ordered transfers settings is (ordering.told apart told done)) = inl done
of_text (Orders batch scheduled only workers) texts printed (ordering.ordered transfers settings is (ordering.overlap i j first line)) = inr line.status
of_text (Orders batch scheduled only workers) texts printed (ordering.wrong refusal wrong line) = inr line.status
of_text (Direct moves) texts printed (directing.directed list reads says done) = inl done
of_text (Direct moves) texts printed (directing.refused fault first line) = inr line.status
of_text (Apply shape batch image workers) texts printed (ran r done) = inl done
of_text (Apply shape batch image workers) texts printed (run_refused refusal wrong line) = inr line.status
of_text (RunJob shape batch scheduled image workers) texts printed (ran r done) = inl done
of_text (RunJob shape batch scheduled image workers) texts printed (run_refused refusal wrong line) = inr line.status
of_text (Replay shape recorded image first) texts printed
    (told, torn, replayed text body opening limit of rack on (led es end rest remade image_is done none so)) = inl done
of_text (Replay shape recorded image first) texts printed
    (told, torn, replayed text body opening limit of rack on (record_wrong error said wrong behind refuses so none)) = inr refuses.1.status
of_text (Replay shape recorded image first) texts printed (told, torn, no_head none begins refuses) = inr refuses.refuses.1.status
of_text (Replay shape recorded image first) texts printed (told, torn, rack_wrong text refusal of wrong refuses so none) = inr refuses.1.status
of_text (Replay shape recorded image first) texts printed (told, torn, other_head text opening due of on other line refuses) = inr refuses.refuses.1.status

failed : (any : Bool) (status : ℕ) → status ≡ status_at any → IsEither status
failed true status is = inr is
failed false status is = inl is

hosted : (holds : Holding) (rack : SharedRack) (names : List Text) (image : Option (List ℕ)) (clients : KnownClients) (ends : List SessionEnd)
    (printed : Printed) (left : Option BookView) → IsLiveAnswer holds rack names image (hosting rack clients ends printed) printed left
    → IsEither printed.status
hosted holds rack names image clients ends printed None (unserved, (refusal, refuses, why)) = inr refuses.1.status
hosted holds rack names image clients ends printed (Some book) (opening, of, was, begins, (sessions, ended, are, closing)) =
    failed _ printed.status closing.status

talked : (holds : Holding) (rack : SharedRack) (image : Option (List ℕ)) (before after : Option (List ℕ)) (told : List ℕ) (printed : Printed)
    (left : Option BookView) → IsLiveAnswer holds rack [] image (talking rack before after told printed) printed left → IsEither printed.status
talked holds rack image before after told printed None (unserved, (refusal, refuses, why)) = inr refuses.1.status
talked holds rack image before after told printed (Some book) (opening, of, was, begins, (t, first, told_is, session, closing)) =
    failed _ printed.status closing.status

ending : (how : DriveOutcome) (printed : Printed) → IsEnding how printed → IsEither printed.status
ending (Completed all) printed ends = inl ends.1
ending (Stopped k fault) printed ends = inr ends.1
ending (Halted k Left) printed ends = inr ends.1
ending (Halted k Unheard) printed ends = inr ends.1
ending (Halted k Untold) printed ends = absurd ends

driven : {S : Type 0} (hears : Hearing S) (from : ScheduleSource (List ℕ)) (text : List ℕ) (wiring : Option (List ℕ)) (first : ℕ) (names : Names)
    (was opens : Ways) (told tells : S) (printed : Printed) → IsDriveAnswer hears from text wiring first names was opens told tells printed
    → IsEither printed.status
driven hears from text wiring first names was opens told tells printed
    (drives.tried board filled batch settings of is ways fills begins (drives.driven how many over ends)) = ending how printed ends
driven hears from text wiring first names was opens told tells printed
    (drives.tried board filled batch settings of is ways fills begins (drives.unopened refusal why refuses same left)) = inr refuses.1.status
driven hears from text wiring first names was opens told tells printed (drives.wrong refusal wrong refuses same left) = inr refuses.1.status

replied : (input : Option (List ℕ)) (told : List ℕ) (printed : Printed) → IsC004By input told printed → IsEither printed.status
replied input told printed (came, dropped, after, switch, consumed, went, none, inl at_end) = inl at_end.1
replied input told printed (came, dropped, after, switch, consumed, went, none, inr refuses) = inr refuses

of_answer : (holds : Holding) (job : Job) (files : Files (List ℕ)) (given : Given) (response : Response) → IsAnswerTo holds job files given response
    → IsEither response.end.status
of_answer holds (Texts job) files given response is = of_text job files response.end is.4
of_answer holds (OverPorts (Drive batch port port_b from wiring first goes_on workers)) files given response is = driven _ _ _ _ _ _ _ _ _ _ response.end is.2.1
of_answer holds (OverPorts C004) files given response is = replied given.input response.told response.end is.2.0
of_answer holds (Sessions rack (Serve scripts workers)) files given response
    (same, (none, served opening of (sessions, are, book, is_left, few, closing), ended)) = failed _ response.end.status closing.status
of_answer holds (Sessions rack (Serve scripts workers)) files given response (same, (none, refused refusal wrong refuses gone, ended)) = inr refuses.1.status
of_answer holds (Sessions rack (Host clients workers)) files given response is = hosted holds rack clients files.image (given.clients clients) response.ends
    response.end response.left is.1.1
of_answer holds (Sessions rack Talk) files given response is = talked holds rack files.image given.input is.1.0 response.told response.end response.left is.1.1

pub of_response : (named : Named) (given : Given) (job : Job) (response : Response) → IsResponseTo named given job response → IsEither response.end.status
of_response named given job response (inl comes) = let is = comes.1 in of_answer named.holds job is.0 _ response is.3
of_response named given job response (inr none) = inr (given_up response.end none.4)
