use Rattle.progress_word.proofs.Moves.{makes_rule, keeps_rule, has_no_other}
use Rattle.progress_word.proofs.laws.rule.Goals as goal

pub returns-clause-made : goal.returns-clause-made
returns-clause-made c = makes_rule

pub returns-clause-kept : goal.returns-clause-kept
returns-clause-kept c = keeps_rule

pub returns-clause-whole : goal.returns-clause-whole
returns-clause-whole c = has_no_other
