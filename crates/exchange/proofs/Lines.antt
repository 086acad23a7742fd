-- What `drive` tells by lines before its answer.
use Rattle.std.proofs.Common.{◌≡◌, [], ℕ, Bool, not, List, Option, Result, Ok, Err, IfOk, IfErr, IsErrAnd, refl, ap, subst, sym}
use Rattle.std.specs.Io.KnownBytes.{Appends}
use Rattle.plan_answers.specs.declared.source.ScheduleSource.{ScheduleSource}
use Rattle.switch_driver.specs.Hearings.{Hearing}
use Rattle.switch_driver.specs.Lines.{Dialogue, TellsLine}
use Rattle.drive_answers.specs.Answers.{HasFailed, IsDriveAnswer}
use Rattle.drive_answers.specs.Ways.{Names, Ways}
use Rattle.drive_answers.specs.declared.drive_end.DriveEnd.{DriveEnd}
use Rattle.drive_answers.specs.declared.fault.DriveFault.{DriveFault}
use Rattle.drive_answers.specs.declared.fault.DriveFault.TheVariants.{Untold, NoMemory}
use Rattle.exchange.specs.Drives.{IsDriveBy, IsDriveCut}
use Rattle.exchange.specs.Outcomes.{HasTold, IsJobFailure, IsMissedFor}
use Rattle.named_files.specs.Notes.{IsNoAnswer}
use Rattle.named_files.specs.declared.notes.JobFailure.{JobFailure}

-- why there is no answer: where there was no memory, nothing was told, and no port was opened
pub missed_by : (hears : Hearing Dialogue) (source : ScheduleSource (List ℕ)) (batch : List ℕ) (wiring : Option (List ℕ)) (first : ℕ) (names : Names)
    (was opens : Ways) (told tells : Dialogue) (fault : DriveFault)
    → HasFailed hears source batch wiring first names was opens told tells fault → (fault ≡ NoMemory → (tells.told ≡ told.told) × (opens ≡ was))
    × (fault ≡ Untold → HasFailed hears source batch wiring first names was opens told tells Untold)
missed_by hears source batch wiring first names was opens told tells Untold failed = (λ bad. absurd (cc), λ same. failed)
missed_by hears source batch wiring first names was opens told tells NoMemory failed =
    (λ same. (ap (λ (d : Dialogue). d.told) failed.0, failed.1), λ bad. absurd (cc))

pub missed_after : {X : Type 0} (r : Result X JobFailure) (fault : DriveFault) (before after : Option (List ℕ)) (is : List ℕ → X → Type 0)
    (behind cut : List ℕ → Type 0) (told : List ℕ) → Appends before after told → IsErrAnd r (λ missed. IsNoAnswer missed × IsMissedFor fault missed)
    → (fault ≡ NoMemory → behind told) → (fault ≡ Untold → cut told) → HasTold before after is behind cut r
missed_after (Ok done) fault before after is behind cut told appended made none some = absurd made
missed_after (Err m) Untold before after is behind cut told appended made none some =
    (told, appended, tt, subst (IsJobFailure behind cut told) (sym made.1.1) (some refl))
missed_after (Err m) NoMemory before after is behind cut told appended made none some =
    (told, appended, tt, subst (IsJobFailure behind cut told) (sym made.1) (none refl))

-- lines are waited for unless it goes on, and they are the first of the input
pub driven_by : (r : Result DriveEnd DriveFault) (source : ScheduleSource (List ℕ)) (batch : List ℕ) (wiring : Option (List ℕ)) (first : ℕ)
    (goes_on waits : Bool) (names : Names) (input left : Option (List ℕ)) (was opens : Ways) (text : List ℕ) → waits ≡ not goes_on → left ≡ input
    → IfOk r (λ end. (leaves : Option (List ℕ)) × IsDriveAnswer (TellsLine waits) source batch wiring first names was opens (record { told = []; left = left })
    (record { told = text; left = leaves }) end.answer)
    → IfOk r (λ end. IsDriveBy source batch wiring first goes_on names input was opens text end.answer)
driven_by (Ok end) source batch wiring first goes_on waits names input left was opens text so same is = (
  is.0,
  subst (λ (b : Bool). IsDriveAnswer (TellsLine b) source batch wiring first names was opens (record { told = []; left = input })
      (record { told = text; left = is.0 }) end.answer) so
      (subst (λ (o : Option (List ℕ)). IsDriveAnswer (TellsLine waits) source batch wiring first names was opens (record { told = []; left = o })
      (record { told = text; left = is.0 }) end.answer) same is.1),
)
driven_by (Err fault) source batch wiring first goes_on waits names input left was opens text so same is = tt

-- the same where a line could be told in part alone
pub cut_by : (r : Result DriveEnd DriveFault) (source : ScheduleSource (List ℕ)) (batch : List ℕ) (wiring : Option (List ℕ)) (first : ℕ) (goes_on waits : Bool)
    (names : Names) (input left : Option (List ℕ)) (was opens : Ways) (text : List ℕ) → waits ≡ not goes_on → left ≡ input
    → IfErr r (λ fault. (fault ≡ NoMemory → (text ≡ []) × (opens ≡ was))
    × (fault ≡ Untold → (leaves : Option (List ℕ)) × HasFailed (TellsLine waits) source batch wiring first names was opens
    (record { told = []; left = left }) (record { told = text; left = leaves }) Untold))
    → IfErr r (λ fault. (fault ≡ NoMemory → (text ≡ []) × (opens ≡ was))
    × (fault ≡ Untold → IsDriveCut source batch wiring first goes_on names input was opens text))
cut_by (Ok end) source batch wiring first goes_on waits names input left was opens text so same is = tt
cut_by (Err fault) source batch wiring first goes_on waits names input left was opens text so same is = (
  is.0,
  λ untold. let t = is.1 untold in (
    t.0,
    subst (λ (b : Bool). HasFailed (TellsLine b) source batch wiring first names was opens (record { told = []; left = input })
        (record { told = text; left = t.0 }) Untold) so
        (subst (λ (o : Option (List ℕ)). HasFailed (TellsLine waits) source batch wiring first names was opens (record { told = []; left = o })
        (record { told = text; left = t.0 }) Untold) same t.1),
  ),
)
