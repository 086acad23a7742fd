-- A schedule whose certificate is wrong is one of the batch all the same.
use Rattle.std.proofs.Common.{◌≡◌, ℕ, List, Option, Some, None, sym, subst, inl, inr, ◌⊎◌}
use Rattle.std.specs.Prelude.{⊤}
use Rattle.batch.specs.declared.transfer.Transfer.{Transfer}
use Rattle.link_graph.specs.declared.check_fault.CheckFault.{CheckFault}
use Rattle.link_graph.specs.declared.check_fault.CheckFault.TheVariants as check_fault
use Rattle.link_graph.specs.Certificates.{Naming}
use Rattle.link_graph.specs.Checks.{IsFirstCheckFault}
use Rattle.link_graph.specs.Schedules.{IsScheduleOf}
use Rattle.refusals.specs.declared.refusal.Refusal.{Refusal}
use Rattle.refusals.specs.declared.refusal.Refusal.TheVariants.{CheckWrongLink, CheckCertificateRepeats, CheckNotTight}
use Rattle.refusals.specs.Sources.{of_check}
use Rattle.plan_answers.specs.Answers.{IsUnshown}

-- a refusal of the certificate
abbrev IsOfCertificate : Refusal → Type 0
IsOfCertificate (CheckWrongLink t) = ⊤
IsOfCertificate (CheckCertificateRepeats t) = ⊤
IsOfCertificate (CheckNotTight s u) = ⊤
IsOfCertificate refusal = ⊥

-- it is one of these
abbrev pub IsOneOfThem : Refusal → Type 0
IsOneOfThem refusal =
    ((t : ℕ) × (refusal ≡ CheckWrongLink t)) ⊎ (((t : ℕ) × (refusal ≡ CheckCertificateRepeats t)) ⊎ ((s : ℕ) × (u : ℕ) × (refusal ≡ CheckNotTight s u)))

of_certificate : (refusal : Refusal) → IsOneOfThem refusal → IsOfCertificate refusal
of_certificate refusal (inl is) = subst IsOfCertificate (sym is.1) tt
of_certificate refusal (inr (inl is)) = subst IsOfCertificate (sym is.1) tt
of_certificate refusal (inr (inr is)) = subst IsOfCertificate (sym is.2) tt

-- the settings were found right before it was looked at
scheduled : (ts : List Transfer) (xs : List (List ℕ)) (named : Naming) (fault : CheckFault) → IsFirstCheckFault ts xs named fault
    → IsOfCertificate (of_check fault) → IsScheduleOf ts xs
scheduled ts xs named (check_fault.Unknown t) first of = absurd of
scheduled ts xs named (check_fault.Repeated t) first of = absurd of
scheduled ts xs named (check_fault.Missing t) first of = absurd of
scheduled ts xs named (check_fault.Clash k link) first of = absurd of
scheduled ts xs named (check_fault.WrongLink t) first of = first.0
scheduled ts xs named (check_fault.CertificateRepeats t) first of = first.0
scheduled ts xs named (check_fault.NotTight s u) first of = first.0
scheduled ts xs named check_fault.NoMemory first of = absurd first

pub valid_then : (ts : List Transfer) (xs : List (List ℕ)) (m : Option Naming) (refusal : Refusal) → IsUnshown ts xs m refusal → IsOneOfThem refusal
    → IsScheduleOf ts xs
valid_then ts xs None refusal is one = absurd (subst IsOfCertificate is (of_certificate refusal one))
valid_then ts xs (Some named) refusal is one = scheduled ts xs named is.0 is.1 (subst IsOfCertificate is.2 (of_certificate refusal one))
