-- Laws of schedules, certificates and their texts, each of them a statement of the definitions
-- alone.
use Rattle.std.specs.Prelude.{◌≡◌, ℕ, List}
use Rattle.batch.specs.declared.transfer.Transfer.{Transfer}
use Rattle.link_graph.specs.declared.check_fault.CheckFault.{CheckFault}
use Rattle.link_graph.specs.Schedules.{IsScheduleOf}
use Rattle.link_graph.specs.Certificates.{Naming, IsShortest, IsCertificate}
use Rattle.link_graph.specs.Checks.{IsFirstCheckFault}
use Rattle.link_graph.specs.ScheduleText.{CertifiedSettings, Says}
use Rattle.link_graph.specs.ScheduleFaults.{IsFirstBadLine}

-- a schedule with a certificate is shortest
abbrev pub CertifiedIsShortest : Type 0
CertifiedIsShortest =
    (batch : List Transfer) (settings : List (List ℕ)) (named : Naming)
    → IsScheduleOf batch settings → IsCertificate batch settings named → IsShortest batch settings

-- a schedule with a certificate has no first fault
abbrev pub RightHasNoFault : Type 0
RightHasNoFault =
    (batch : List Transfer) (settings : List (List ℕ)) (named : Naming) (fault : CheckFault)
    → IsScheduleOf batch settings → IsCertificate batch settings named
    → IsFirstCheckFault batch settings named fault → ⊥

-- there is at most one first fault
abbrev pub OneFault : Type 0
OneFault =
    (batch : List Transfer) (settings : List (List ℕ)) (named : Naming) (one other : CheckFault)
    → IsFirstCheckFault batch settings named one → IsFirstCheckFault batch settings named other
    → one ≡ other

-- a text says at most one schedule with what is named
abbrev pub OneSaid : Type 0
OneSaid = (text : List ℕ) (one other : CertifiedSettings) → Says text one → Says text other → one
    ≡ other

-- a text that says something has no first line at fault
abbrev pub NeverBoth : Type 0
NeverBoth = (text : List ℕ) (s : CertifiedSettings) (n : ℕ) → Says text s → IsFirstBadLine text n
    → ⊥

-- a text has at most one first line at fault
abbrev pub OneBadLine : Type 0
OneBadLine = (text : List ℕ) (n m : ℕ) → IsFirstBadLine text n → IsFirstBadLine text m → n ≡ m
