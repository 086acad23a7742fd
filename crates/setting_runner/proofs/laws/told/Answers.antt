use Rattle.std.proofs.Common.{◌≡◌, true}
use Rattle.setting_runner.proofs.Tellings.{told_keeps, told_last}
use Rattle.setting_runner.proofs.laws.told.Goals as goal

pub returns-clause-kept : goal.returns-clause-kept
returns-clause-kept g c = λ a holds begins goes b k t. told_keeps g.N.Notice.hears (λ n j. holds n j ≡ true) a b k begins goes t

pub returns-clause-last : goal.returns-clause-last
returns-clause-last g c = λ a b k t. told_last g.N.Notice.hears a b k t
