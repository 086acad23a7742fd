-- Steady plans: a shortest schedule of a batch that changes the switch only at need. And the link
-- that shows how often any schedule has to change it.
use Rattle.std.specs.Prelude.{◌≡◌, ◌<◌, ◌≤◌, ℕ, List, [], length, All, AllPairs, Option, Some, None}
use Rattle.batch.specs.declared.transfer.Transfer.{Transfer}
use Rattle.link_graph.specs.declared.link.Link.{Link}
use Rattle.link_graph.specs.Counts.{uses, AreUsers, IsBusiest}
use Rattle.link_graph.specs.Schedules.{IsScheduleOf}
use Rattle.link_graph.specs.Certificates.{Naming, IsCertificate}
use Rattle.steady_schedule.specs.Bounds.{most_changes}
use Rattle.steady_schedule.specs.Changes.{changes}
use Rattle.steady_schedule.specs.Needs.{ChangesAtNeed}
use Rattle.steady_schedule.specs.Partners.{partners, HasMostPartners}

-- a batch, the settings of a schedule, and what its certificate names
pub record SteadyPlan : Type 0 where
  pub batch : List Transfer
  pub settings : List (List ℕ)
  pub named : Naming

-- the plan of these
abbrev pub steady_plan : List Transfer → List (List ℕ) → Naming → SteadyPlan
steady_plan batch settings named =
    record {
      batch = batch;
      settings = settings;
      named = named;
    }

-- the busiest link and all transfers that use it, as many as its uses; of an empty batch neither
abbrev pub NamesBusiest : List Transfer → Option Link → List ℕ → Type 0
NamesBusiest batch None transfers = (batch ≡ []) × (transfers ≡ [])
NamesBusiest batch (Some link) transfers =
    IsBusiest batch link × AreUsers batch link transfers × (length transfers ≡ uses batch link)

-- a link with the most partners, the first of these, and how many these are; an empty batch has
-- none
abbrev pub IsDemanding : List Transfer → Option (Link × ℕ) → Type 0
IsDemanding batch None = batch ≡ []
IsDemanding batch (Some (link, count)) =
    HasMostPartners batch link × (count ≡ partners batch link)

-- A schedule of the batch, whose certificate shows that it is shortest, by the busiest link. No
-- setting is empty, and numbers ascend in each. The changes are few, and after the first setting
-- only where something is over.
pub record IsSteady (plan : SteadyPlan) : Type 0 where
  pub schedule : IsScheduleOf plan.batch plan.settings
  pub certificate : IsCertificate plan.batch plan.settings plan.named
  pub busiest : NamesBusiest plan.batch plan.named.link plan.named.transfers
  pub none_empty : All (λ setting. 0 < length setting) plan.settings
  pub ascending : All (AllPairs (λ t u. t < u)) plan.settings
  pub few : changes plan.batch plan.settings ≤ most_changes plan.batch
  pub at_need : ChangesAtNeed plan.batch plan.settings
