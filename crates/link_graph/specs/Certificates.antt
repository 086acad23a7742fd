-- Shortest schedules, and certificates that a schedule is shortest. König 1916, the easy half: no
-- edge colouring of a graph has fewer colours than a node has edges.
use Rattle.std.specs.Prelude.{◌≡◌, ◌≢◌, ℕ, ◌<◌, ◌≤◌, ◌↔◌, List, [], length, All, AllPairs, Option}
use Rattle.std.specs.Prelude.{Some, None, IsSome, option_map}
use Rattle.std.specs.Global.{Vec}
use Rattle.std.specs.Option.{option_map_or}
use Rattle.batch.specs.declared.transfer.Transfer.{Transfer}
use Rattle.link_graph.specs.declared.link.Link.{Link}
use Rattle.link_graph.specs.Uses.{Uses}
use Rattle.link_graph.specs.Schedules.{IsScheduleOf}

-- a link and transfers that are named with it, or neither
pub record Naming : Type 0 where
  pub link : Option Link
  pub transfers : List ℕ

-- what names these
abbrev pub naming : Option Link → List ℕ → Naming
naming link transfers = record { link = link; transfers = transfers }

-- what a link with its transfers names, or nothing where there is none
abbrev pub naming_of : Option (Link × Vec ℕ) → Naming
naming_of named = naming (option_map (λ n. n.0) named) (option_map_or (λ n. n.1.items) named [])

-- there is a link just where there are transfers
pub record IsNaming (named : Naming) : Type 0 where
  pub both : IsSome named.link ↔ (0 < length named.transfers)

-- a schedule, and none has fewer settings
pub record IsShortest (batch : List Transfer) (settings : List (List ℕ)) : Type 0 where
  pub schedule : IsScheduleOf batch settings
  pub least : (other : List (List ℕ)) → IsScheduleOf batch other → length settings ≤ length other

-- no number stands twice
abbrev pub AreDistinct : List ℕ → Type 0
AreDistinct ts = AllPairs (λ t u. t ≢ u) ts

-- some transfers, distinct, that all use the link, as many as the settings
pub record Certifies (batch : List Transfer) (settings : List (List ℕ)) (link : Link)
    (transfers : List ℕ) : Type 0 where
  pub some : 0 < length transfers
  pub all_use : All (λ t. Uses batch t link) transfers
  pub distinct : AreDistinct transfers
  pub many : length transfers ≡ length settings

-- nothing to do: no link, no transfers, no settings
pub record IsEmptyPlan (batch : List Transfer) (settings : List (List ℕ))
    (transfers : List ℕ) : Type 0 where
  pub batch_empty : batch ≡ []
  pub none_named : transfers ≡ []
  pub no_settings : settings ≡ []

-- the same where a link may be named or not
abbrev pub CertifiesBy : List Transfer → List (List ℕ) → Option Link → List ℕ → Type 0
CertifiesBy batch settings None transfers = IsEmptyPlan batch settings transfers
CertifiesBy batch settings (Some link) transfers = Certifies batch settings link transfers

-- the naming shows that no schedule of the batch has fewer settings
abbrev pub IsCertificate : List Transfer → List (List ℕ) → Naming → Type 0
IsCertificate batch settings named = CertifiesBy batch settings named.link named.transfers

-- a schedule, with a naming that shows that none has fewer settings
pub record IsCertified (batch : List Transfer) (settings : List (List ℕ))
    (named : Naming) : Type 0 where
  pub schedule : IsScheduleOf batch settings
  pub certificate : IsCertificate batch settings named
