-- As many settings as the busiest link has transfers are the fewest, and each schedule with a
-- certificate has just so many.
use Rattle.std.proofs.Common.{◌↔◌, ◌≡◌, ℕ, ◌≤◌, List, [], length, Option, Some, None, refl, arith}
use Rattle.std.specs.Prelude.{IfSome, IsNone}
use Rattle.batch.specs.declared.transfer.Transfer.{Transfer}
use Rattle.link_graph.specs.declared.link.Link.{Link}
use Rattle.link_graph.specs.Counts.{IsBusiest, uses}
use Rattle.link_graph.specs.Schedules.{IsScheduleOf}
use Rattle.link_graph.specs.Certificates.{CertifiesBy}
use Rattle.link_graph.proofs.UserCounts.{uses_bound, named_few, unused}
use Rattle.schedule_picture.specs.Verdicts.{IsBusiestOf, uses_of}
use Rattle.schedule_picture.specs.Laws.{VerdictTellsFewest}

pub most_used : (batch : List Transfer) (busiest : Option Link) (link : Link) → IsBusiestOf batch busiest → uses batch link ≤ uses_of batch busiest
most_used batch None link is = unused batch link is
most_used batch (Some b) link is = is.most link

pub busiest_of : (batch : List Transfer) (busiest : Option Link) → (IsNone busiest ↔ (batch ≡ [])) → IfSome busiest (IsBusiest batch)
    → IsBusiestOf batch busiest
busiest_of batch None none most = none.0 refl
busiest_of batch (Some b) none most = most

least_by : (batch : List Transfer) (settings : List (List ℕ)) (busiest : Option Link) → IsScheduleOf batch settings → uses_of batch busiest ≤ length settings
least_by batch settings None s = omega arith
least_by batch settings (Some link) s = uses_bound batch link settings s

few_by : (batch : List Transfer) (settings : List (List ℕ)) (busiest link : Option Link) (named : List ℕ) → IsBusiestOf batch busiest
    → CertifiesBy batch settings link named → length settings ≤ uses_of batch busiest
few_by batch settings busiest None named is c = rw c.no_settings (omega arith)
few_by batch settings busiest (Some link) named is c = omega (arith, c.many, named_few batch link named c.all_use c.distinct, most_used batch busiest link is)

pub tells_fewest : VerdictTellsFewest
tells_fewest batch settings certificate verdict is = record {
  least = λ other s. omega (arith, is.fewest, least_by batch other is.link s);
  certified = λ other named c. omega (
    arith,
    is.fewest,
    least_by batch other is.link c.schedule,
    few_by batch other is.link named.link named.transfers is.most
        c.certificate,
  );
}
