-- What is known of how many settings a schedule has: how many the busiest link wants, and whether a
-- certificate shows that no schedule is shorter. And of how often it changes the switch: how often
-- that is, and how often any schedule of the batch has to, or any with as many settings.
use Rattle.std.specs.Prelude.{◌≡◌, ◌≢◌, ℕ, ◌≤◌, List, [], length, Option, Some, None}
use Rattle.batch.specs.declared.transfer.Transfer.{Transfer}
use Rattle.link_graph.specs.declared.link.Link.{Link}
use Rattle.link_graph.specs.Counts.{uses, IsBusiest}
use Rattle.link_graph.specs.Certificates.{Naming, IsCertificate}
use Rattle.steady_schedule.specs.Changes.{changes}
use Rattle.steady_schedule.specs.Partners.{partners}
use Rattle.steady_schedule.specs.Prices.{AreNeeded}
use Rattle.schedule_picture.specs.declared.verdict.CertificateStatus.{CertificateStatus}
use Rattle.schedule_picture.specs.declared.verdict.CertificateStatus.TheVariants.{Certified, Wrong}
use Rattle.schedule_picture.specs.declared.verdict.CertificateStatus.TheVariants.{Missing}
use Rattle.schedule_picture.specs.declared.verdict.Verdict.{Verdict}

-- the link that most transfers use, and the first among equals; none where there is no transfer
abbrev pub IsBusiestOf : List Transfer → Option Link → Type 0
IsBusiestOf batch None = batch ≡ []
IsBusiestOf batch (Some link) = IsBusiest batch link

-- how many transfers use the link, where one is named
abbrev pub uses_of : List Transfer → Option Link → ℕ
uses_of batch None = 0
uses_of batch (Some link) = uses batch link

-- what is named shows that no schedule of the batch is shorter, or doesn't
abbrev pub IsProofOf : List Transfer → List (List ℕ) → Naming → CertificateStatus → Type 0
IsProofOf batch settings named Certified = IsCertificate batch settings named
IsProofOf batch settings named Wrong = IsCertificate batch settings named → ⊥
IsProofOf batch settings named Missing = ⊥

-- how the certificate stands, where there is one
abbrev pub IsCertificateStatus : List Transfer → List (List ℕ) → Option Naming → CertificateStatus
    → Type 0
IsCertificateStatus batch settings None standing = standing ≡ Missing
IsCertificateStatus batch settings (Some named) standing = IsProofOf batch settings named standing

-- the link of a certificate that shows it, and else this one
abbrev pub link_named : Option Link → CertificateStatus → Option Naming → Option Link
link_named busiest Certified (Some named) = named.link
link_named busiest Certified None = busiest
link_named busiest Wrong certificate = busiest
link_named busiest Missing certificate = busiest

-- Some link has so many partners, and none has more. Where there is no transfer, these are 0.
pub record AreMostPartners (batch : List Transfer) (count : ℕ) : Type 0 where
  pub link : Link
  pub has : partners batch link ≡ count
  pub most : (other : Link) → partners batch other ≤ count

-- No schedule with so many settings has fewer changes than this, which is no less than the most
-- partners of a link. It is those where so many settings aren't the fewest.
pub record IsLeastShown (batch : List Transfer) (settings fewest partners least : ℕ) : Type 0 where
  pub needed : AreNeeded batch settings least
  pub not_less : partners ≤ least
  pub by_one : settings ≢ fewest → least ≡ partners

-- what is known of a schedule of the batch, with the certificate that it has
pub record IsVerdict (batch : List Transfer) (settings : List (List ℕ))
    (certificate : Option Naming) (verdict : Verdict) : Type 0 where
  pub link : Option Link
  pub most : IsBusiestOf batch link
  pub fewest : verdict.fewest ≡ uses_of batch link
  pub standing : IsCertificateStatus batch settings certificate verdict.standing
  pub busiest : verdict.busiest ≡ link_named link verdict.standing certificate
  pub counted : verdict.changes ≡ changes batch settings
  pub needed : AreMostPartners batch verdict.partners
  pub shown : IsLeastShown batch (length settings) verdict.fewest verdict.partners verdict.least
