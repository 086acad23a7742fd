-- The first fault of a schedule and of what is named with it. The order of the faults is this
-- project's choice.
use Rattle.std.specs.Prelude.{◌≡◌, ◌≢◌, ℕ, ◌<◌, List, ◌∷◌, ◌++◌, length, take, All, Contains}
use Rattle.std.specs.Prelude.{Option, Some, slice_get}
use Rattle.std.specs.List.{concat}
use Rattle.std.specs.Option.{IsSomeAnd}
use Rattle.batch.specs.declared.transfer.Transfer.{Transfer}
use Rattle.link_graph.specs.declared.check_fault.CheckFault.{CheckFault}
use Rattle.link_graph.specs.declared.check_fault.CheckFault.TheVariants.{Unknown, Repeated, Missing}
use Rattle.link_graph.specs.declared.check_fault.CheckFault.TheVariants.{Clash, WrongLink}
use Rattle.link_graph.specs.declared.check_fault.CheckFault.TheVariants.{CertificateRepeats}
use Rattle.link_graph.specs.declared.check_fault.CheckFault.TheVariants.{NotTight, NoMemory}
use Rattle.link_graph.specs.declared.link.Link.{Link}
use Rattle.link_graph.specs.Links.{StandsBefore}
use Rattle.link_graph.specs.Uses.{Uses, IsMatching}
use Rattle.link_graph.specs.Schedules.{IsScheduleOf}
use Rattle.link_graph.specs.Certificates.{Naming, AreDistinct, IsCertificate}

-- x is the first of the list that isn't as it should be
pub record IsFirstWithout (P : ℕ → Type 0) (xs : List ℕ) (x : ℕ) : Type 0 where
  pub before : List ℕ
  pub after : List ℕ
  pub parts : xs ≡ before ++ x ∷ after
  pub good : All P before
  pub bad : P x → ⊥

-- x is the first of the list to stand a second time
pub record IsFirstRepeated (xs : List ℕ) (x : ℕ) : Type 0 where
  pub before : List ℕ
  pub after : List ℕ
  pub parts : xs ≡ before ++ x ∷ after
  pub distinct : AreDistinct before
  pub again : Contains before x

-- t is the least number below n that doesn't stand in the list
pub record IsFirstMissing (n : ℕ) (xs : List ℕ) (t : ℕ) : Type 0 where
  pub below : t < n
  pub missing : Contains xs t → ⊥
  pub lesser : (u : ℕ) → u < t → Contains xs u

-- two transfers of the setting, at different positions, use the link
pub record IsShared (batch : List Transfer) (setting : List ℕ) (link : Link) : Type 0 where
  pub i : ℕ
  pub j : ℕ
  pub apart : i < j
  pub one : (t : ℕ) × (slice_get setting i ≡ Some t) × Uses batch t link
  pub other : (u : ℕ) × (slice_get setting j ≡ Some u) × Uses batch u link

-- no link that stands before this one is shared
abbrev pub NoneSharedBefore : List Transfer → List ℕ → Link → Type 0
NoneSharedBefore batch setting link =
    (other : Link) → StandsBefore other link → IsShared batch setting other → ⊥

-- setting k is the first that is no matching, and the link its first that is shared
pub record IsFirstClash (batch : List Transfer) (settings : List (List ℕ)) (k : ℕ)
    (link : Link) : Type 0 where
  pub earlier : All (IsMatching batch) (take k settings)
  pub setting : List ℕ
  pub here : slice_get settings k ≡ Some setting
  pub shared : IsShared batch setting link
  pub first : NoneSharedBefore batch setting link

-- each number of the settings is that of a transfer
abbrev pub AreKnown : List Transfer → List (List ℕ) → Type 0
AreKnown batch settings = All (λ t. t < length batch) (concat settings)

-- each transfer stands in a setting, and none stands twice
pub record StandOnce (batch : List Transfer) (settings : List (List ℕ)) : Type 0 where
  pub distinct : AreDistinct (concat settings)
  pub every : (t : ℕ) → t < length batch → Contains (concat settings) t

-- a link is named, and the transfer uses it
abbrev pub UsesNamed : List Transfer → Option Link → ℕ → Type 0
UsesNamed batch named t = IsSomeAnd named (λ link. Uses batch t link)

-- What is first wrong. Each kind of fault is looked for in all of the schedule, and where there is
-- none, the next kind.
abbrev pub IsFirstCheckFault : List Transfer → List (List ℕ) → Naming → CheckFault → Type 0
IsFirstCheckFault batch settings named (Unknown t) =
    IsFirstWithout (λ u. u < length batch) (concat settings) t
IsFirstCheckFault batch settings named (Repeated t) =
    AreKnown batch settings × IsFirstRepeated (concat settings) t
IsFirstCheckFault batch settings named (Missing t) =
    AreKnown batch settings × AreDistinct (concat settings)
    × IsFirstMissing (length batch) (concat settings) t
IsFirstCheckFault batch settings named (Clash k link) =
    AreKnown batch settings × StandOnce batch settings × IsFirstClash batch settings k link
IsFirstCheckFault batch settings named (WrongLink t) =
    IsScheduleOf batch settings × IsFirstWithout (UsesNamed batch named.link) named.transfers t
IsFirstCheckFault batch settings named (CertificateRepeats t) =
    IsScheduleOf batch settings × All (UsesNamed batch named.link) named.transfers
    × IsFirstRepeated named.transfers t
IsFirstCheckFault batch settings named (NotTight s u) =
    IsScheduleOf batch settings × All (UsesNamed batch named.link) named.transfers
    × AreDistinct named.transfers × (s ≡ length settings) × (u ≡ length named.transfers) × (s ≢ u)
IsFirstCheckFault batch settings named NoMemory = ⊥

-- ---- what the checker answers

-- no memory was to be had
abbrev pub IsWantOfMemory : CheckFault → Type 0
IsWantOfMemory fault = fault ≡ NoMemory

-- a fault that isn't want of memory is the first
abbrev pub IsFirstUnlessMemory : List Transfer → List (List ℕ) → Naming → CheckFault → Type 0
IsFirstUnlessMemory batch settings named fault =
    fault ≢ NoMemory → IsFirstCheckFault batch settings named fault

-- the first fault, whatever is named with the settings
abbrev pub IsSettingsFault : List Transfer → List (List ℕ) → CheckFault → Type 0
IsSettingsFault batch settings fault =
    fault ≢ NoMemory × ((named : Naming) → IsFirstCheckFault batch settings named fault)

-- the naming is a certificate of each schedule with so many settings
abbrev pub CertifiesCount : List Transfer → ℕ → Naming → Type 0
CertifiesCount batch count named =
    (settings : List (List ℕ)) → IsScheduleOf batch settings → length settings ≡ count
    → IsCertificate batch settings named

-- the first fault of the naming with each schedule of so many settings
abbrev pub IsNamingFault : List Transfer → ℕ → Naming → CheckFault → Type 0
IsNamingFault batch count named fault =
    fault ≢ NoMemory
    × ((settings : List (List ℕ)) → IsScheduleOf batch settings → length settings ≡ count
    → IsFirstCheckFault batch settings named fault)
