use Rattle.link_graph.proofs.SaidLines.{one_said, says_or_faults, one_bad_line}
use Rattle.link_graph.proofs.laws.one_reading.Goals as goal

pub returns-clause-said : goal.returns-clause-said
returns-clause-said c = one_said

pub returns-clause-apart : goal.returns-clause-apart
returns-clause-apart c = says_or_faults

pub returns-clause-line : goal.returns-clause-line
returns-clause-line c = one_bad_line
