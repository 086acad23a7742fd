use Rattle.std.proofs.Common.{rules}
use Rattle.progress_word.proofs.Moves.{joins}
use Rattle.progress_word.proofs.word.ProgressWord.join.Goals as goal

pub join_seat-requires : goal.join_seat-requires
join_seat-requires c = (search rules, search rules, search rules, search rules, joins _ _ _ _ (search rules))
