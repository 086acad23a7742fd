-- A stage that tells lines, and something else beside them: the text that was told, and the answer
-- after it.
use Rattle.std.proofs.Common.{◌≡◌, ◌++◌, ◌∙◌, [], ℕ, List, Option, Some, Result, Ok, Err, IfOk, IfErr, refl}
use Rattle.std.specs.Io.KnownBytes.{Appends}
use Rattle.batch.specs.declared.transfer.Transfer.{Transfer}
use Rattle.byte_streams.proofs.Carrying.{appends_none, appends_then}
use Rattle.plan_answers.specs.Refusals.{Printed}
use Rattle.plan_answers.specs.declared.source.ScheduleSource.{ScheduleSource}
use Rattle.switch_driver.proofs.Texts.{driven_so, line_text}
use Rattle.switch_driver.specs.Lines.{Dialogue, HasToldLine, TellsLine}
use Rattle.switch_driver.specs.declared.driving.DriveOutcome.{DriveOutcome}
use Rattle.switch_driver.specs.declared.driving.DriveOutcome.TheVariants.{Halted}
use Rattle.switch_driver.specs.declared.lines.LineObserver.{LineObserver}
use Rattle.switch_driver.specs.Hearings.{Hearing}
use Rattle.switch_driver.specs.declared.drive_observer.Halt.{Halt}
use Rattle.switch_driver.specs.declared.drive_observer.Halt.TheVariants.{Untold}
use Rattle.switch_settings.specs.declared.rack_wiring.RackWiring.{RackWiring}
use Rattle.drive_answers.specs.Answers.{is_wide_over, rack_for, IsDrivenOver, IsTried, driven, unopened, IsDriveAnswer, tried, wrong, HasFailed}
use Rattle.drive_answers.specs.Ways.{Names, Ways}
use Rattle.drive_answers.specs.declared.drive_end.DriveEnd.{DriveEnd}
use Rattle.drive_answers.specs.declared.fault.DriveFault.{DriveFault}
use Rattle.drive_answers.specs.declared.fault.DriveFault.TheVariants.{Untold as UntoldLine, NoMemory}

-- where it is told that a setting stands, its line is told, and what is beside the lines becomes so
pub record TellsBeside {S I O : Type 0} (remaining : I → Option (List ℕ)) (contents : O → Option (List ℕ)) (hears : Hearing S) (lines : S → LineObserver I O)
    (becomes : S → S → Type 0) : Type 0 where
  pub none : (s : S) → becomes s s
  pub more : (a b c : S) → becomes a b → becomes b c → becomes a c
  pub tells : (a : S) (n : ℕ) (ns : List ℕ) (said : Result (Unit {0}) Halt) (b : S) → hears a n ns said b → HasToldLine remaining contents n ns said (lines a)
      (lines b) × becomes a b

module _ {S I O : Type 0} (remaining : I → Option (List ℕ)) (contents : O → Option (List ℕ)) (hears : Hearing S) (lines : S → LineObserver I O)
    (becomes : S → S → Type 0) (t : TellsBeside remaining contents hears lines becomes) (names : Names) (was opens : Ways) (told : S) where
  -- so much was told since, over the same loan
  pub record Since (now : S) (text : List ℕ) : Type 0 where
    pub appended : Appends (contents (lines told).out.now) (contents (lines now).out.now) text
    pub loan : (lines now).out.ghost_name ≡ (lines told).out.ghost_name
    pub waits : (lines now).waits ≡ (lines told).waits
    pub beside : becomes told now

  abbrev pub seen : S → List ℕ → Dialogue
  seen now text = record { told = text; left = remaining (lines now).input.now }

  begins : Since told []
  begins = record { appended = appends_none (contents (lines told).out.now); loan = refl; waits = refl; beside = t.none told }

  step : (a : S) (n : ℕ) (ns : List ℕ) (said : Result (Unit {0}) Halt) (b : S) (text : List ℕ) → Since a text → hears a n ns said b → (more : List ℕ)
      × TellsLine (lines told).waits (seen a text) n ns said (seen b more) × Since b more
  step a n ns said b text since heard =
      let here = t.tells a n ns said b heard in
      let line = line_text remaining contents (lines told).waits n ns said (lines a) (lines b) since.waits here.0 in (
        text ++ line.text,
        line.is text,
        record {
          appended = appends_then _ _ _ _ _ since.appended line.appended;
          loan = line.loan ∙ since.loan;
          waits = line.kept ∙ since.waits;
          beside =
              t.more told a b since.beside here.1;
        },
      )

  module _ (tells : S) where
    over_so : (rack : RackWiring) (batch : List Transfer) (settings : List (List ℕ)) (first : ℕ) (how : DriveOutcome) → IsDrivenOver hears rack batch settings
        first how names was opens told tells
        → (text : List ℕ) × IsDrivenOver (TellsLine (lines told).waits) rack batch settings first how names was opens (seen told []) (seen tells text)
        × Since tells text
    over_so rack batch settings first how over =
        let so = driven_so hears (TellsLine (lines told).waits) seen Since step rack batch settings first (Some []) told [] begins how over.carried tells
        over.went in
        (so.0, record { carried = over.carried; failed = over.failed; ways = over.ways; went = so.1; cause = over.cause }, so.2)

    tried_so : (rack : RackWiring) (batch : List Transfer) (settings : List (List ℕ)) (first : ℕ) (printed : Printed) → IsTried hears rack batch settings first
        names was opens told tells printed
        → (text : List ℕ) × IsTried (TellsLine (lines told).waits) rack batch settings first names was opens (seen told []) (seen tells text) printed
        × Since tells text
    tried_so rack batch settings first printed (driven how many over ending) =
        let so = over_so rack batch settings first how over in (so.0, driven how many so.1 ending, so.2)
    tried_so rack batch settings first printed (unopened refusal why refused same none) = rw same ([], unopened refusal why refused refl none, begins)

    -- so it is however a drive ended
    pub end_so : (source : ScheduleSource (List ℕ)) (batch_text : List ℕ) (wiring : Option (List ℕ)) (first : ℕ) (r : Result DriveEnd DriveFault)
        → IfOk r (λ end. IsDriveAnswer hears source batch_text wiring first names was opens told tells end.answer)
        → IfErr r (HasFailed hears source batch_text wiring first names was opens told tells)
        → (text : List ℕ) × IfOk r (λ end. IsDriveAnswer (TellsLine (lines told).waits) source batch_text wiring first names was opens (seen told [])
        (seen tells text) end.answer)
        × IfErr r (HasFailed (TellsLine (lines told).waits) source batch_text wiring first names was opens (seen told []) (seen tells text)) × Since tells text
    end_so source batch_text wiring first (Ok end) (tried board filled batch settings is_board from has fills start is) fails =
        let so = tried_so (rack_for filled (is_wide_over names batch)) batch settings first end.answer is in
        (so.0, tried board filled batch settings is_board from has fills start so.1, tt, so.2)
    end_so source batch_text wiring first (Ok end) (wrong refusal why refused same none) fails = rw same ([], wrong refusal why refused refl none, tt, begins)
    end_so source batch_text wiring first (Err UntoldLine) is (board, filled, batch, settings, is_board, from, has, fills, (k, many, over)) =
        let so = over_so (rack_for filled (is_wide_over names batch)) batch settings first (Halted k Untold) over in
        (so.0, tt, (board, filled, batch, settings, is_board, from, has, fills, (k, many, so.1)), so.2)
    end_so source batch_text wiring first (Err NoMemory) is (same, none) = rw same ([], tt, (refl, none), begins)
