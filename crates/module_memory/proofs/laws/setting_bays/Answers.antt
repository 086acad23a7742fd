use Rattle.module_memory.proofs.BayLaws.{bays_are_wide, hold_the_counts, stay_lent}
use Rattle.module_memory.proofs.PartedSettings.{settings_have_bays, sources_are_found}
use Rattle.module_memory.proofs.laws.setting_bays.Goals as goal

pub returns-clause-parted : goal.returns-clause-parted
returns-clause-parted c = settings_have_bays

pub returns-clause-wide : goal.returns-clause-wide
returns-clause-wide c = bays_are_wide

pub returns-clause-counts : goal.returns-clause-counts
returns-clause-counts c = hold_the_counts

pub returns-clause-stay_lent : goal.returns-clause-stay_lent
returns-clause-stay_lent c = stay_lent

pub returns-clause-found : goal.returns-clause-found
returns-clause-found c = sources_are_found
