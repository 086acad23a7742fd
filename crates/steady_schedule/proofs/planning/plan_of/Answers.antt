use Rattle.steady_schedule.proofs.FewNeeds.{few_needs}
use Rattle.steady_schedule.proofs.Plans.{certified_none_empty}
use Rattle.steady_schedule.proofs.planning.plan_of.Goals as goal

pub of-requires : goal.of-requires
of-requires c =
    let none_empty = certified_none_empty _ _ _ c.requires.schedule c.requires.certificate in
    record {
      schedule = c.requires.schedule;
      certificate = c.requires.certificate;
      busiest = c.requires.busiest;
      none_empty = none_empty;
      ascending = c.requires.ascending;
      few = few_needs _ _ c.requires.batch c.requires.schedule none_empty c.requires.needs;
      at_need = c.requires.needs;
    }
