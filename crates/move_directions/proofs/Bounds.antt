-- How many settings moves need, whatever their directions.
use Rattle.std.proofs.Common.{◌≡◌, ℕ, ◌≤◌, List, length, Option, Some, None, ap, arith}
use Rattle.batch.specs.declared.transfer.Transfer.{Transfer}
use Rattle.link_graph.specs.declared.link.End.TheVariants.{Zero, Three}
use Rattle.link_graph.specs.declared.link.Link.{Link}
use Rattle.link_graph.specs.Certificates.{CertifiesBy}
use Rattle.link_graph.specs.Schedules.{IsScheduleOf}
use Rattle.link_graph.proofs.UserCounts.{uses_bound, named_few}
use Rattle.move_directions.specs.declared.moves.Move.{Move}
use Rattle.move_directions.specs.Moves.{half_ends, Directs}
use Rattle.move_directions.specs.Directions.{link_of, HalvesEnds, IsGreatestHalf, NeedsFewest, NoneIsShorter}
use Rattle.move_directions.proofs.Directed.{ends_counted}

-- ---- the laws

pub module_bound : (moves : List Move) (m : ℕ) (batch : List Transfer) (settings : List (List ℕ)) → Directs moves batch → IsScheduleOf batch settings
    → half_ends moves m ≤ length settings
module_bound moves m batch settings done schedule =
    omega (arith, ends_counted moves batch m done, uses_bound batch (link_of Zero m) settings schedule, uses_bound batch (link_of Three m) settings schedule)

module _ (moves : List Move) (batch : List Transfer) (settings : List (List ℕ)) (done : Directs moves batch) (halves : HalvesEnds moves batch)
    (schedule : IsScheduleOf batch settings) where
  fewest_by : (link : Option Link) (named : List ℕ) → CertifiesBy batch settings link named → IsGreatestHalf moves (length settings)
      × NoneIsShorter moves (length settings)
  fewest_by None named c =
      let none : length settings ≡ 0 = ap length c.no_settings in (
        record {
          most = λ m. module_bound moves m batch settings done schedule;
          reached =
              (0, omega (arith, module_bound moves 0 batch settings done schedule, none));
        },
        λ other others _ _. omega (arith, none),
      )
  fewest_by (Some link) named c =
      let m : ℕ = link.«module» in
      let is : half_ends moves m ≡ length settings = omega (
        arith,
        c.many,
        named_few batch link named c.all_use c.distinct,
        halves link,
        module_bound moves m batch settings done schedule,
      ) in (
        record { most = λ n. module_bound moves n batch settings done schedule; reached = (m, is) },
        λ other others d s. omega (arith, is, module_bound moves m other others d s),
      )

pub fewest : (moves : List Move) (batch : List Transfer) → Directs moves batch → HalvesEnds moves batch → NeedsFewest moves batch
fewest moves batch done halves settings named c = fewest_by moves batch settings done halves c.schedule named.link named.transfers c.certificate
