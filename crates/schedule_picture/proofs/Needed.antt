-- How often a schedule has to change the switch.
use Rattle.std.proofs.Common.{ℕ, ◌≤◌, List, refl, arith}
use Rattle.batch.specs.declared.transfer.Transfer.{Transfer}
use Rattle.link_graph.specs.Schedules.{IsScheduleOf}
use Rattle.steady_schedule.specs.Changes.{changes}
use Rattle.steady_schedule.proofs.NeedChanges.{need_changes}
use Rattle.schedule_picture.specs.Laws.{TellsNeededChanges}
use Rattle.schedule_picture.specs.Verdicts.{AreMostPartners, IsLeastShown}

partners_few : (batch : List Transfer) (partners : ℕ) (other : List (List ℕ)) → AreMostPartners batch partners → IsScheduleOf batch other
    → partners ≤ changes batch other
partners_few batch partners other most schedule = omega (arith, most.has, need_changes batch other most.link schedule)

pub by_partners : (batch : List Transfer) (settings fewest partners : ℕ) → AreMostPartners batch partners → IsLeastShown batch settings fewest partners partners
by_partners batch settings fewest partners most = record {
  needed = λ other schedule same. partners_few batch partners other most schedule;
  not_less = omega arith;
  by_one = λ ne. refl;
}

pub needed : TellsNeededChanges
needed batch settings other certificate verdict fits is schedule =
    (partners_few batch verdict.partners other is.needed schedule, is.shown.needed other schedule)
