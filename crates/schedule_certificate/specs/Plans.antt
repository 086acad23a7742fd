-- Plans: a shortest schedule of a batch, with the certificate that shows it. D. König, 1916: a
-- bipartite multigraph has an edge colouring with as many colours as its busiest node has edges,
-- and none has fewer.
use Rattle.std.specs.Prelude.{◌≡◌, ◌<◌, ◌≤◌, ℕ, List, [], length, All, AllPairs, Option, Some, None}
use Rattle.std.specs.Prelude.{slice_index}
use Rattle.batch.specs.Batches.{IsBatch}
use Rattle.batch.specs.declared.transfer.Transfer.{Transfer}
use Rattle.link_graph.specs.declared.link.Link.{Link}
use Rattle.link_graph.specs.Counts.{uses, AreUsers, IsBusiest}
use Rattle.link_graph.specs.Schedules.{IsScheduleOf}
use Rattle.alternating_path.specs.Classes.{ColouredSettings}
use Rattle.link_graph.specs.Certificates.{Naming, IsShortest, IsCertificate}
use Rattle.schedule_certificate.specs.Reinsertions.{AreFew}
use Rattle.schedule_certificate.specs.Parts.{IsDegree}

-- a batch, the settings of a schedule, what its certificate names, and how many transfers were put
-- in one by one
pub record Plan : Type 0 where
  pub batch : List Transfer
  pub settings : List (List ℕ)
  pub named : Naming
  pub reinserted : ℕ

-- the plan of a batch by the settings of its colouring, and what its certificate names
abbrev pub plan_of : List Transfer → ColouredSettings → Naming → Plan
plan_of batch coloured named =
    record {
      batch = batch;
      settings = coloured.settings;
      named = named;
      reinserted = coloured.inserted;
    }

-- the busiest link and all transfers that use it, ascending; of an empty batch neither
abbrev pub NamesBusiest : List Transfer → Option Link → List ℕ → Type 0
NamesBusiest batch None transfers = (batch ≡ []) × (transfers ≡ [])
NamesBusiest batch (Some link) transfers = IsBusiest batch link × AreUsers batch link transfers

-- The schedule is shortest, as the busiest link's transfers show. No setting is empty, numbers
-- ascend in each, and the least numbers of the settings ascend.
pub record IsPlan (plan : Plan) : Type 0 where
  pub fits : IsBatch plan.batch
  pub shortest : IsShortest plan.batch plan.settings
  pub certificate : IsCertificate plan.batch plan.settings plan.named
  pub busiest : NamesBusiest plan.batch plan.named.link plan.named.transfers
  pub none_empty : All (λ setting. 0 < length setting) plan.settings
  pub ascending : All (AllPairs (λ t u. t < u)) plan.settings
  pub by_least : AllPairs (λ a b. slice_index a 0 < slice_index b 0) plan.settings
  pub few : length plan.settings ≤ length plan.batch

-- how many transfers use a link; none where there is no link
abbrev pub uses_of : List Transfer → Option Link → ℕ
uses_of batch None = 0
uses_of batch (Some link) = uses batch link

-- few of the transfers were put in one by one
abbrev pub HasFewReinsertions : Plan → Type 0
HasFewReinsertions plan =
    AreFew (length plan.batch) (uses_of plan.batch plan.named.link) plan.reinserted

-- what each plan that is made keeps
abbrev pub IsMadePlan : Plan → Type 0
IsMadePlan plan = IsPlan plan × HasFewReinsertions plan

-- ---- what the colouring of all transfers gives

-- a schedule of the batch, in the order of a plan, with at most as many settings as the busiest
-- link has uses
pub record IsColoured (batch : List Transfer) (coloured : ColouredSettings) : Type 0 where
  pub degree : ℕ
  pub is_degree : IsDegree batch degree
  pub schedule : IsScheduleOf batch coloured.settings
  pub count : length coloured.settings ≤ degree
  pub none_empty : All (λ setting. 0 < length setting) coloured.settings
  pub ascending : All (AllPairs (λ t u. t < u)) coloured.settings
  pub by_least : AllPairs (λ a b. slice_index a 0 < slice_index b 0) coloured.settings
  pub few : AreFew (length batch) degree coloured.inserted
