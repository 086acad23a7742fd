use Rattle.std.proofs.Common.{refl}
use Rattle.steady_schedule.specs.Partners.{partners}
use Rattle.row_tests.proofs.tests.steady_schedule_rows.the_definitions_count_partners.Goals as goal

pub returns-clause-two : goal.returns-clause-two
unfolding partners
returns-clause-two c = refl

pub returns-clause-one : goal.returns-clause-one
unfolding partners
returns-clause-one c = refl

pub returns-clause-unused : goal.returns-clause-unused
unfolding partners
returns-clause-unused c = refl
