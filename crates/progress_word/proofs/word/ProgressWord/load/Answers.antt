use Rattle.std.proofs.Common.{rules}
use Rattle.progress_word.proofs.Moves.{loads}
use Rattle.progress_word.proofs.word.ProgressWord.load.Goals as goal

pub load-requires : goal.load-requires
load-requires c = (search rules, search rules, loads _ _ _ (search rules))
