use Rattle.book_record.proofs.Fronts.{each_front, end_is_no_entry}
use Rattle.book_record.proofs.laws.fronts.Goals as goal

pub returns-clause-each : goal.returns-clause-each
returns-clause-each c = each_front

pub returns-clause-end : goal.returns-clause-end
returns-clause-end c = end_is_no_entry
