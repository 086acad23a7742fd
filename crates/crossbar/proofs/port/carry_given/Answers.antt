use Rattle.std.proofs.Common.{rules, arith}
use Rattle.std.proofs.lemmas.Grind.{common_steps}
use Rattle.crossbar.proofs.port.carry_given.Goals as goal

pub returns-in-Some-apply-clause-replies : goal.returns-in-Some-apply-clause-replies
returns-in-Some-apply-clause-replies c = grind (arith, common_steps)

pub returns-in-None-clause-switch : goal.returns-in-None-clause-switch
returns-in-None-clause-switch c = search rules
