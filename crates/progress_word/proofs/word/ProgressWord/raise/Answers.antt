use Rattle.std.proofs.Common.{rules}
use Rattle.progress_word.proofs.Moves.{raises}
use Rattle.progress_word.proofs.word.ProgressWord.raise.Goals as goal

pub fetch_max-requires : goal.fetch_max-requires
fetch_max-requires c = (search rules, search rules, raises _ _ _ _ (search rules))
