use Rattle.std.proofs.Common.{◌≡◌, List, [], refl, arith}
use Rattle.std.specs.List.{list_any}
use Rattle.batch.specs.declared.limits.TheConstants.{MAX_MODULES}
use Rattle.batch.specs.declared.transfer.Transfer.{Transfer}
use Rattle.link_graph.specs.declared.link.Link.{Link}
use Rattle.link_graph.specs.Rows.{first_link}
use Rattle.steady_schedule.specs.Partners.{joins_to, partners}
use Rattle.steady_schedule.proofs.NeedChanges.{count_none}
use Rattle.schedule_picture.proofs.verdict.partners.Goals as goal

-- in an empty batch no link has partners
no_partners : (batch : List Transfer) (link : Link) → batch ≡ [] → partners batch link ≡ 0
unfolding partners
no_partners batch link empty = rw empty (count_none MAX_MODULES (λ m. list_any (joins_to link m) []) (λ i. refl))

pub returns-in-None : goal.returns-in-None
returns-in-None c =
    let empty : c.args.graph.now ≡ [] = rw c.in-None.is at c.most_partners.ensures in
    record {
      link = first_link;
      has = no_partners c.args.graph.now first_link empty;
      most = λ other. omega (arith, no_partners c.args.graph.now other empty);
    }
