use Rattle.std.proofs.Common.{rules}
use Rattle.setting_runner.proofs.block.found_words.Goals as goal

pub returns-in-Some : goal.returns-in-Some
returns-in-Some c = search rules
